-- `withdraw`: refused by the first "no", or taken back.
use Rattle.std.specs.Prelude.{refl}
use Rattle.std.proofs.Common.{sym, ◌∙◌, rules}
use Rattle.std.proofs.lemmas.Result.{err_from_is_err_and}
use Rattle.protocol.specs.{Withdraw.{last_sn, withdraw}, Questions.withdraw_questions, Numbers.{number, number_not_zero, refused_by, passed}}
use Rattle.store.specs.{View.tried, Framing.{refused, accepted}}
use Rattle.withdraw.specs.Judged.{passed_in}
use Rattle.withdraw.proofs.withdraw.Goals as goal

pub returns-in_err-judge : goal.returns-in_err-judge
unfolding tried
returns-in_err-judge c =
    let p = err_from_is_err_and c.from_residual.result c.from_residual.ensures.1 in
    rw (p.1, p.2) (refused _ _ (number _) (refused_by _ c.judge.ensures c.in_err-judge.was) _ (number_not_zero _))

pub take_back-requires : goal.take_back-requires
take_back-requires c = passed_in _ _ (passed _ c.judge.ensures c.in_ok-judge.was)

pub returns : goal.returns
unfolding withdraw last_sn withdraw_questions
returns c = accepted _ _ 0 (passed _ c.judge.ensures c.in_ok-judge.was) refl _ _ refl (c.take_back.ensures ∙ rw c.last_sn-n.ensures)
