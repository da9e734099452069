-- `head::is_up` meets its contract: the desk, and a machine by its status.
use Rattle.std.proofs.Common.{◌≡◌, refl, ne_eqb, ◌∙◌, not}
use denote.Enum.Bare.{sameb}
use Rattle.protocol.specs.{declared.Status.Status, declared.Status.TheVariants.{Up, Down, CatchingUp}, contracts.Status.the_type, Parts.{is_down}}
use Rattle.head.specs.Head.{runs}
use Rattle.head.proofs.is_up.Goals as goal

down : (s : Status) → not (sameb the_type s Down) ≡ not (is_down s)
unfolding is_down
down Up = refl
down Down = refl
down CatchingUp = refl

pub returns-then-p-eq0 : goal.returns-then-p-eq0
unfolding runs
returns-then-p-eq0 c = rw c.if-p-eq0.true

pub returns-else-p-eq0 : goal.returns-else-p-eq0
unfolding runs
returns-else-p-eq0 c = c.ne.ensures ∙ rw (ne_eqb _ 0 c.if-p-eq0.false, ← c.status.ensures) (down _)
