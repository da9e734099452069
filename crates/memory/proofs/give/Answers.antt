use Rattle.std.specs.Prelude.{refl}
use Rattle.std.proofs.Common.{length-set, arith, rules}
use Rattle.memory.specs.Numbers.{given}
use Rattle.memory.proofs.give.Goals as goal

pub bounds-m-sender : goal.bounds-m-sender
bounds-m-sender c = simp length-set (omega arith)

pub bounds-m-sender-2 : goal.bounds-m-sender-2
bounds-m-sender-2 c = simp length-set (omega arith)

pub bounds-m-sender-3 : goal.bounds-m-sender-3
bounds-m-sender-3 c = simp length-set (omega arith)

pub shape_of-m : goal.shape_of-m
shape_of-m c = simp length-set

pub returns : goal.returns
returns c = unfold given in refl
