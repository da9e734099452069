-- `keep` puts a piece behind the bytes of a line, as far as there is room. The invariant: i bytes are copied.
use Rattle.std.specs.Prelude.{◌≡◌, refl, ◌+◌, take, set, get_or}
use Rattle.std.proofs.Common.{ap, ◌∙◌, add-one, arith, length-set}
use Rattle.std.proofs.Math.Seq.{paste, paste-zero, paste-suc}
use Rattle.arrays.specs.Copies.{kept_piece}
use Rattle.transcript.proofs.keep.Goals as goal

pub loop-i-init : goal.loop-i-init
loop-i-init c = let a = c.args in (refl, paste-zero a.line.now a.n a.piece.now)

pub loop-i-preserved : goal.loop-i-preserved
loop-i-preserved c =
    let a = c.args in
    let l = c.loop-i in (
      simp length-set l.invariant.0,
      ap (λ s. set s (a.n + l.i) (get_or a.piece.now l.i 0)) l.invariant.1 ∙ rw add-one (paste-suc a.line.now a.n a.piece.now l.i 0 (omega arith) (omega arith)),
    )

pub returns : goal.returns
returns c =
    let a = c.args in
    let l = c.loop-i in
    let k = c.min-k.result in
    let all : l.i ≡ k = omega arith in
    record {
      count = omega (arith, c.requires, c.min-k.ensures);
      bytes = ap (take (a.n + k)) (l.invariant.1 ∙ ap (paste a.line.now a.n a.piece.now) all) ∙ kept_piece a.line.now a.n a.piece.now k c.requires c.min-k.ensures;
    }
