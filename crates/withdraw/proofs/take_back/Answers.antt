-- `take_back`: the desk's memory, then the wire.
use Rattle.std.proofs.Common.{arith}
use Rattle.withdraw.specs.Withdrawn.{taken_back}
use Rattle.withdraw.proofs.take_back.Goals as goal

pub returns : goal.returns
returns c =
    let a = c.args in
    taken_back a.s.now c.told-s a.c a.n c.forget.new.m (omega arith) c.forget.ensures c.leave_all.new.ws (omega arith) (rw c.number.ensures at c.leave_all.ensures.row.items)
