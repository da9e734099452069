-- `resend` goes by where receiver and sender are.
use Rattle.std.specs.Prelude.{refl}
use Rattle.std.proofs.Common.{arith}
use Rattle.restart.specs.{OnMachine.{home_at, on_last}, Resends.{packets_of, again}}
use Rattle.restart.proofs.resend.resend.Goals as goal

pub height_back-requires : goal.height_back-requires
height_back-requires c =
    let a = c.args in
    let to = a.x.message.receiver in
    on_last a.s.now (omega arith) a.p c.requires to (home_at a.s.now a.p to _ _ c.in-false-true.ensures refl)

pub returns-in-true-false : goal.returns-in-true-false
unfolding again
returns-in-true-false c =
    let a = c.args in
    rw (c.in-true-false.is-0, home_at a.s.now a.p a.x.message.receiver _ _ c.in-true-false.ensures refl) c.from_here.ensures

pub returns-in-false-true : goal.returns-in-false-true
unfolding again
returns-in-false-true c =
    let a = c.args in
    let here = home_at a.s.now a.p a.x.message.receiver _ _ c.in-false-true.ensures refl in
    rw (c.in-false-true.is-0, here, ← c.height_back.ensures) c.from_elsewhere.ensures

pub returns-in-true-true : goal.returns-in-true-true
unfolding again packets_of
returns-in-true-true c =
    let a = c.args in
    rw (c.in-true-true.is-0, home_at a.s.now a.p a.x.message.receiver _ _ c.in-true-true.ensures refl)

pub returns-in-false-false : goal.returns-in-false-false
unfolding again packets_of
returns-in-false-false c =
    let a = c.args in
    rw (c.in-false-false.is-0, home_at a.s.now a.p a.x.message.receiver _ _ c.in-false-false.ensures refl)
