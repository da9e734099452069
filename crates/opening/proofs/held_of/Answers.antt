-- `opening::held_of` meets its contract: among the machines or not.
use Rattle.std.proofs.Common.{arith}
use Rattle.std.proofs.lemmas.Bool.Decides.{nat_tests}
use Rattle.protocol.specs.{Frames.between, Job.{machines_of, has_machine}}
use Rattle.opening.proofs.held_of.Goals as goal

pub returns : goal.returns
unfolding has_machine between machines_of
returns c = grind (arith, nat_tests)
