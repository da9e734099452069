-- `jobline::number_of` meets its contract, branch by branch.
use Rattle.std.proofs.Common.{arith}
use Rattle.std.proofs.lemmas.Bool.Decides.{nat_tests}
use Rattle.protocol.specs.{Frames.between, Job.{chares_of, has_chare}}
use Rattle.jobline.specs.Numbers.{number_of}
use Rattle.jobline.proofs.number_of.Goals as goal

pub returns-then-contains : goal.returns-then-contains
unfolding number_of has_chare between chares_of
returns-then-contains c = grind (arith, nat_tests)

pub returns-else-contains : goal.returns-else-contains
unfolding number_of has_chare between chares_of
returns-else-contains c = grind (arith, nat_tests)
