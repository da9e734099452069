-- `checkpoint::judge` meets its contract: each question by the function that answers it.
use Rattle.std.specs.Prelude.{◌≡◌, ◌&&◌}
use Rattle.std.proofs.Common.{sym, ◌∙◌}
use Rattle.protocol.specs.{Parts.up, Questions.{checkpoint_questions, is_machine}}
use Rattle.head.specs.Head.{runs, status_of}
use Rattle.store.specs.View.{view}
use Rattle.checkpoint.proofs.judge.Goals as goal
use Rattle.checkpoint.proofs.judge.Goals.{then-is_up, else-is_up}

pub returns : goal.returns
unfolding checkpoint_questions is_machine view up runs
returns c =
    let status = status_of c.args.s.now in
    let both : c.if-is_up.first_no ≡ (runs status c.args.p && runs status c.buddy-b.result) = elim c.if-is_up.branch [
      | then-is_up w ↦ w.first_no-is ∙ w.is_up-then-is_up.ensures ∙ rw (sym c.is_up.ensures ∙ w.if-is_up.true)
      | else-is_up w ↦ rw (sym c.is_up.ensures ∙ w.if-is_up.false) (w.first_no-is ∙ w.if-is_up.false)
    ] in
    c.first_no.ensures ∙ rw (c.is_set.ensures, c.is_machine.ensures, c.is_lost.ensures, both, c.buddy-b.ensures.is)
