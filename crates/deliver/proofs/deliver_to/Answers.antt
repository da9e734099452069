-- `deliver_to`: the memory of the chare, then the wire.
use Rattle.std.proofs.Common.{arith}
use Rattle.std.proofs.lemmas.Result.{err_from_is_err_and}
use Rattle.store.specs.ViewLaws.{span}
use Rattle.deliver.specs.InPlace.{chare_refused, chare_done}
use Rattle.deliver.proofs.deliver_to.Goals as goal

pub returns-in_err-done : goal.returns-in_err-done
returns-in_err-done c =
    let a = c.args in
    let p = err_from_is_err_and c.from_residual.result c.from_residual.ensures.1 in
    let e = span a.c in
    rw (p.1, p.2, e) (chare_refused a.s.now c.told-s a.at a.p c.requires.waits a.c c.requires.c_bound
    c.arrive.new.m (omega arith) (rw e at c.arrive.ensures) c.in_err-done.was)

pub returns : goal.returns
returns c =
    let a = c.args in
    let e = span a.c in
    rw e (chare_done a.s.now c.told-s a.at a.p c.requires.waits a.c c.requires.c_bound
    c.arrive.new.m (omega arith) (rw e at c.arrive.ensures) c.in_ok-done.was c.answer.new.ws (omega arith) (rw e at c.answer.ensures.on.items))
