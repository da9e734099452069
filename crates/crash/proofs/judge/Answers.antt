-- `crash::judge` meets its contract: each question by the function that answers it.
use Rattle.std.proofs.Common.{◌∙◌}
use Rattle.protocol.specs.{Parts.up, Questions.{crash_questions, is_machine}}
use Rattle.head.specs.Head.{runs}
use Rattle.store.specs.View.{view}
use Rattle.crash.proofs.judge.Goals as goal

pub returns : goal.returns
unfolding crash_questions is_machine view up runs
returns c =
    c.first_no.ensures ∙ rw (c.is_set.ensures, c.is_machine.ensures, c.is_lost.ensures, c.is_up.ensures)
