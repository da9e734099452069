-- `jobline::chare_in_range` meets its contract, test by test.
use Rattle.std.proofs.Common.{arith}
use Rattle.std.proofs.lemmas.Bool.Decides.{nat_tests}
use Rattle.protocol.specs.{Frames.between, Job.{machines_of, chares_of, chare_in_range}}
use Rattle.jobline.proofs.chare_in_range.Goals as goal

pub returns-then-chare_byte-chares : goal.returns-then-chare_byte-chares
unfolding chare_in_range between machines_of chares_of
returns-then-chare_byte-chares c = grind (arith, nat_tests)

pub returns-else-chare_byte-chares : goal.returns-else-chare_byte-chares
unfolding chare_in_range between machines_of chares_of
returns-else-chare_byte-chares c = grind (arith, nat_tests)
