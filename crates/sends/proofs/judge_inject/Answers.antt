use Rattle.std.specs.Prelude.{◌≡◌, ◌&&◌, leb}
use Rattle.std.proofs.Common.{sym, ◌∙◌}
use Rattle.protocol.specs.Questions.{is_chare}
use Rattle.store.specs.View.{view}
use Rattle.sends.specs.Inject.{desk_questions, not_put}
use Rattle.sends.proofs.judge_inject.Goals as goal
use Rattle.sends.proofs.judge_inject.Goals.{then-is_chare, else-is_chare}

pub returns : goal.returns
unfolding desk_questions is_chare view
returns c =
    let a = c.args in
    let within : c.if-is_chare.in_range ≡ (is_chare (view a.s.now) a.chare && leb a.hops 7) = elim c.if-is_chare.branch [
      | then-is_chare w ↦ rw (w.in_range-is, sym c.is_chare.ensures ∙ w.if-is_chare.true)
      | else-is_chare w ↦ rw (w.in_range-is, w.if-is_chare.false, sym c.is_chare.ensures ∙ w.if-is_chare.false)
    ] in
    c.first_no.ensures ∙ not_put _ _ _ ∙ rw (c.is_set.ensures, within, c.is_lost.ensures)
