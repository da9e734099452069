use Rattle.std.proofs.Common.{arith}
use Rattle.protocol.specs.Restart.{below_hole}
use Rattle.tickets.specs.Holes.{hole_above}
use Rattle.tickets.proofs.target.Goals as goal

pub overflow_sub-result : goal.overflow_sub-result
overflow_sub-result c = omega (arith, hole_above _ _ _ c.in-Some.ensures)

pub returns-in-Some : goal.returns-in-Some
unfolding below_hole
returns-in-Some c = rw (← c.in-Some.ensures)

pub returns-in-None : goal.returns-in-None
unfolding below_hole
returns-in-None c = rw (← c.in-None.ensures) c.highest.ensures
