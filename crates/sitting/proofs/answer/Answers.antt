-- `answer`: the reader has read the piece up to `at`. Each turn takes at least a byte of it, or it is the last.
use Rattle.std.specs.Prelude.{List, ◌≡◌, refl, ℕ, ◌+◌, ◌-◌, ◌≤◌, length, take, drop}
use Rattle.std.proofs.Common.{◌∙◌, arith, length-take, length-drop, take_all, take-add}
use Rattle.lists.specs.Tests.{true_not_false}
use Rattle.transcript.specs.{Reading.{Reading, read_all}, Pieces.read_append, Ends.{fed_taken}}
use Rattle.sitting.proofs.answer.Goals as goal

-- what was taken lies within the piece
taken : (p : List ℕ) (k t : ℕ) → k ≤ length p → t ≤ length (take (length p - k) (drop k p)) → k + t ≤ length p
taken p k t h few = omega (arith, few, length-take (length p - k) (drop k p), length-drop k p)

-- the reader has read on by what was taken
reads_on : (r q after : Reading) (p : List ℕ) (k t : ℕ) → q ≡ read_all r (take k p) → after ≡ read_all q (take t (take (length p - k) (drop k p)))
    → after ≡ read_all r (take (k + t) p)
reads_on r q after p k t e h =
    let rest : take (length p - k) (drop k p) ≡ drop k p = take_all (length p - k) (drop k p) (omega (arith, length-drop k p)) in
    h ∙ rw (rest, e, take-add k t p, read_append r (take k p))

pub loop-at-init : goal.loop-at-init
unfolding read_all
loop-at-init c = (omega arith, refl, refl)

pub returns-then-is_err : goal.returns-then-is_err
returns-then-is_err c =
    let l = c.loop-at in
    let f = c.feed-f in
    record { taken = l.at + f.result.taken; reader = reads_on _ _ _ c.args.piece.now l.at f.result.taken l.invariant.2 f.ensures.reader; all = λ e. absurd (true_not_false e refl) }

pub returns-then-f-eq0 : goal.returns-then-f-eq0
returns-then-f-eq0 c =
    let l = c.loop-at in
    let f = c.feed-f in
    record { taken = l.at + f.result.taken; reader = reads_on _ _ _ c.args.piece.now l.at f.result.taken l.invariant.2 f.ensures.reader; all = λ e. absurd (true_not_false e refl) }

pub overflow_add-at : goal.overflow_add-at
overflow_add-at c = let l = c.loop-at in omega (arith, taken c.args.piece.now l.at c.feed-f.result.taken l.invariant.0 (fed_taken _ _ _ _ _ _ _ c.feed-f.ensures))

pub loop-at-preserved : goal.loop-at-preserved
loop-at-preserved c =
    let l = c.loop-at in
    let f = c.feed-f in
    let p = c.args.piece.now in (
      taken p l.at f.result.taken l.invariant.0 (fed_taken _ _ _ _ _ _ _ f.ensures),
      f.auto.out ∙ l.invariant.1,
      reads_on _ _ _ p l.at f.result.taken l.invariant.2 f.ensures.reader,
    )
