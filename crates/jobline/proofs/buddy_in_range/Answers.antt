-- `jobline::buddy_in_range` meets its contract, test by test.
use Rattle.std.proofs.Common.{arith}
use Rattle.std.proofs.lemmas.Bool.Decides.{nat_tests}
use Rattle.protocol.specs.Job.{machines_of, buddy_in_range}
use Rattle.jobline.proofs.buddy_in_range.Goals as goal

pub returns-then-buddy-byte : goal.returns-then-buddy-byte
unfolding buddy_in_range machines_of
returns-then-buddy-byte c = grind (arith, nat_tests)

pub returns-else-buddy-byte : goal.returns-else-buddy-byte
unfolding buddy_in_range machines_of
returns-else-buddy-byte c = grind (arith, nat_tests)
