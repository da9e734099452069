use Rattle.std.specs.Prelude.{refl}
use Rattle.std.proofs.Common.{arith}
use Rattle.std.proofs.lemmas.Result.{err_from_is_err_and}
use Rattle.protocol.specs.Numbers.{number_not_zero}
use Rattle.store.specs.ViewLaws.{span}
use Rattle.sends.specs.WorkAt.{not_worked, all_sent, undone}
use Rattle.sends.proofs.work_at.Goals as goal

pub returns-in_err-new : goal.returns-in_err-new
returns-in_err-new c =
    let a = c.args in
    let e = span a.c in
    let p = err_from_is_err_and c.from_residual.result c.from_residual.ensures.1 in
    rw (p.1, p.2) (not_worked a.s.now c.told-s a.c c.requires.0 a.e c.requires.1 _ (rw e at c.take-old.ensures) _ c.in_err-new.ensures)

pub returns-in-Err : goal.returns-in-Err
returns-in-Err c =
    let a = c.args in
    let e = span a.c in
    rw e (undone a.s.now c.told-s a.c c.requires.0 a.e c.requires.1 _ (rw e at c.take-old.ensures) _ c.in_ok-new.ensures
    c.give.new.m (omega arith) (rw e at c.give.ensures) c.send_all.new.s _ refl (rw e at c.in-Err.ensures) (number_not_zero _)
    c.give-in-Err.new.m (rw e at c.give-in-Err.ensures))

pub returns-in-Ok : goal.returns-in-Ok
returns-in-Ok c =
    let a = c.args in
    let e = span a.c in
    all_sent a.s.now c.told-s a.c c.requires.0 a.e c.requires.1 _ (rw e at c.take-old.ensures) _ c.in_ok-new.ensures
    c.give.new.m (omega arith) (rw e at c.give.ensures) c.send_all.new.s _ refl (rw e at c.in-Ok.ensures) refl
