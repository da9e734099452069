-- `judge`: 2 to 5, then 12.
use Rattle.std.proofs.Common.{sym, ◌∙◌, rules}
use Rattle.std.proofs.lemmas.Result.{err_from_is_err_and}
use Rattle.protocol.specs.Numbers.{number_not_zero, refused_by, passed}
use Rattle.withdraw.specs.Judged.{stopped, index, yes_12, no_12}
use Rattle.withdraw.proofs.judge.Goals as goal

pub returns-in_err-judge_chare : goal.returns-in_err-judge_chare
returns-in_err-judge_chare c =
    let p = err_from_is_err_and c.from_residual.result c.from_residual.ensures.1 in
    rw (p.1, p.2) (stopped _ _ _ (refused_by _ c.judge_chare.ensures c.in_err-judge_chare.was) (number_not_zero _))

pub can_be_taken_back-requires : goal.can_be_taken_back-requires
can_be_taken_back-requires c = index _ _ (passed _ c.judge_chare.ensures c.in_ok-judge_chare.was)

pub returns-then-can_be_taken_back : goal.returns-then-can_be_taken_back
returns-then-can_be_taken_back c =
    yes_12 _ _ (passed _ c.judge_chare.ensures c.in_ok-judge_chare.was) _ c.last_sn-n.ensures (sym c.can_be_taken_back.ensures ∙ c.if-can_be_taken_back.true)

pub returns-else-can_be_taken_back : goal.returns-else-can_be_taken_back
returns-else-can_be_taken_back c =
    no_12 _ _ (passed _ c.judge_chare.ensures c.in_ok-judge_chare.was) _ c.last_sn-n.ensures (sym c.can_be_taken_back.ensures ∙ c.if-can_be_taken_back.false)
