-- `head::is_machine` meets its contract: the two tests of a range.
use Rattle.std.proofs.Common.{rules}
use borrow.Author.Tests.{tests}
use Rattle.protocol.specs.Frames.{between}
use Rattle.head.proofs.is_machine.Goals as goal

pub returns : goal.returns
unfolding between
returns c = search (rules, tests)
