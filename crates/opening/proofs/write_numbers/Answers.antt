-- `opening::write_numbers` meets its contract: three words over zeros.
use Rattle.std.proofs.Common.{arith, length-set}
use Rattle.opening.specs.Words.{numbered}
use Rattle.opening.proofs.write_numbers.Goals as goal

pub bounds-h-3 : goal.bounds-h-3
bounds-h-3 c = simp length-set (omega (arith, c.clear.auto.ws, c.requires))

pub returns : goal.returns
unfolding numbered
returns c = rw (c.clear.ensures, c.requires, c.byte.ensures, c.byte-2.ensures)
