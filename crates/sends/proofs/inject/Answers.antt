use Rattle.std.specs.Prelude.{refl}
use Rattle.std.proofs.Common.{arith}
use Rattle.std.proofs.lemmas.Result.{err_from_is_err_and}
use Rattle.protocol.specs.Numbers.{number_not_zero}
use Rattle.sends.specs.Inject.{inject_refused, index, hops_in, not_sent, is_sent}
use Rattle.sends.proofs.inject.Goals as goal

pub returns-in_err-judge_inject : goal.returns-in_err-judge_inject
returns-in_err-judge_inject c =
    let a = c.args in
    let p = err_from_is_err_and c.from_residual.result c.from_residual.ensures.1 in
    rw (p.1, p.2) (inject_refused a.s.now a.chare a.value a.hops _ c.in_err-judge_inject.ensures (number_not_zero _))

pub send_one-requires : goal.send_one-requires
send_one-requires c =
    let a = c.args in
    let h = index a.s.now a.chare a.value a.hops c.in_ok-judge_inject.ensures in
    (omega arith, h, hops_in a.s.now a.chare a.value a.hops c.in_ok-judge_inject.ensures)

pub returns-in_err-send_one : goal.returns-in_err-send_one
returns-in_err-send_one c =
    let a = c.args in
    let p = err_from_is_err_and c.from_residual-in_err-send_one.result c.from_residual-in_err-send_one.ensures.1 in
    rw (p.1, p.2) (not_sent a.s.now a.chare a.value a.hops c.in_ok-judge_inject.ensures _ c.in_err-send_one.ensures (number_not_zero _))

pub returns : goal.returns
returns c =
    let a = c.args in
    is_sent a.s.now a.chare a.value a.hops c.in_ok-judge_inject.ensures _ c.in_ok-send_one.ensures refl
