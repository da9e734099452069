use Rattle.std.proofs.lemmas.Result.{err_from_is_err_and}
use Rattle.protocol.specs.Numbers.{number_not_zero}
use Rattle.sends.specs.Made.{none_sent, two_said, two_made}
use Rattle.sends.proofs.send_two.Goals as goal

pub returns-in_err-two_verdict : goal.returns-in_err-two_verdict
returns-in_err-two_verdict c =
    let a = c.args in
    let p = err_from_is_err_and c.from_residual.result c.from_residual.ensures.1 in
    rw (p.1, p.2) (none_sent (two_said a.s.now a.a a.b a.value a.hops _ c.plan_of-p.ensures _ _ c.logged.ensures.is c.waiting.ensures.is a.d _ c.plan_after-q.ensures c.in_err-two_verdict.ensures) (number_not_zero _))

pub returns : goal.returns
returns c =
    let a = c.args in
    two_made a.s.now a.a a.b a.value a.hops _ c.plan_of-p.ensures _ _ c.logged.ensures.is c.waiting.ensures.is a.d _ c.plan_after-q.ensures c.in_ok-two_verdict.ensures _ c.send.ensures _ c.send-2.ensures
