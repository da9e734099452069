-- `play`: while the input goes on, the reader has read some bytes.
use Rattle.std.specs.Prelude.{◌≡◌, refl, []}
use Rattle.std.proofs.Common.{subst, ap}
use Rattle.std.proofs.Math.Logic.{inl}
use Rattle.transcript.specs.{Reading.{Reading, read_all, within}, View.reading}
use Rattle.sitting.specs.Turns.{len_of, goes_on, turned, goes_further, plays_further}
use Rattle.sitting.proofs.play.Goals as goal

pub loop-init : goal.loop-init
unfolding read_all reading within
loop-init c = ([], refl)

pub loop-preserved : goal.loop-preserved
loop-preserved c =
    let l = c.loop in
    let t = turned _ l.len _ _ _ _ _ _ _ c.turn.ensures in
    let on = goes_further _ _ l.invariant.0 l.invariant.1 _ t.0 (ap goes_on c.in-Continue.is) in
    (on.0, subst (λ m. reading c.turn.new.s c.turn.new.line m ≡ read_all (reading c.args.s.now c.args.line.now 0) on.0) (ap len_of c.in-Continue.is) on.1)

pub returns-in-Break : goal.returns-in-Break
returns-in-Break c =
    let l = c.loop in
    plays_further _ _ l.invariant.0 l.invariant.1 _ (turned _ l.len _ _ _ _ _ _ _ c.turn.ensures).1

pub returns : goal.returns
unfolding reading within
returns c = let l = c.loop in record { bytes = l.invariant.0; state = inl (ap (λ (x : Reading). x.state) l.invariant.1) }
