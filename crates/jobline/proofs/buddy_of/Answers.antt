-- `jobline::buddy_of` meets its contract, branch by branch.
use Rattle.std.proofs.Common.{arith}
use Rattle.std.proofs.lemmas.Bool.Decides.{nat_tests}
use Rattle.protocol.specs.{Frames.between, Job.{machines_of, job_of, has_machine, previous_machine}}
use Rattle.jobline.proofs.buddy_of.Goals as goal

pub returns-then-not-contains : goal.returns-then-not-contains
unfolding job_of has_machine between machines_of
returns-then-not-contains c = grind (arith, nat_tests)

pub returns-in-0 : goal.returns-in-0
unfolding job_of has_machine between machines_of previous_machine
returns-in-0 c = grind (arith, nat_tests)

pub returns-in-0-2 : goal.returns-in-0-2
unfolding job_of has_machine between machines_of previous_machine
returns-in-0-2 c = grind (arith, nat_tests)

pub returns-in_default : goal.returns-in_default
unfolding job_of has_machine between machines_of previous_machine
returns-in_default c = grind (arith, nat_tests)
