-- `turn`: what a read gave goes to the reader, by its cases.
use Rattle.std.specs.Prelude.{refl}
use Rattle.sitting.specs.Turns.{Turned, at_end, given}
use Rattle.sitting.proofs.turn.Goals as goal

pub returns-in_default : goal.returns-in_default
unfolding Turned
returns-in_default c = rw c.in_default.is (refl, refl)

pub returns-then-given-eq0 : goal.returns-then-given-eq0
returns-then-given-eq0 c = rw c.in-Some.is (at_end _ _ _ _ _ _ _ _ _ c.if-given-eq0.true refl c.end.result c.end.ensures)

pub returns : goal.returns
returns c = rw c.in-Some.is (given _ _ _ _ _ _ _ _ c.in-Some.given c.if-given-eq0.false (rw c.min-k.ensures at c.answer.ensures))
