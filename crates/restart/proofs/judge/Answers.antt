-- `judge` puts four questions.
use denote.Enum.Bare.{sameb}
use Rattle.std.specs.Prelude.{◌≡◌, refl}
use Rattle.std.proofs.Common.{◌∙◌}
use Rattle.protocol.specs.contracts.Status.{the_type}
use Rattle.protocol.specs.{declared.Status.Status, declared.Status.TheVariants.{Up, Down, CatchingUp}, Parts.is_down, Questions.{is_machine}}
use Rattle.store.specs.View.{view}
use Rattle.restart.specs.Judged.{asked}
use Rattle.restart.proofs.judge.Goals as goal

same_down : (x : Status) → sameb the_type x Down ≡ is_down x
unfolding is_down
same_down Up = refl
same_down Down = refl
same_down CatchingUp = refl

pub returns : goal.returns
unfolding asked is_machine view
returns c =
    let down = c.eq-is_down.ensures ∙ same_down c.status.result in
    c.first_no.ensures ∙ rw (c.is_set.ensures, c.is_machine.ensures, c.is_lost.ensures, down, c.status.ensures)
