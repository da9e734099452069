-- `head::is_lost` meets its contract: the second word.
use Rattle.std.proofs.Common.{arith}
use Rattle.words.specs.Part.{part_at}
use Rattle.head.specs.Head.{LOST, lost_of}
use Rattle.head.proofs.is_lost.Goals as goal

pub returns : goal.returns
unfolding lost_of
returns c = rw (part_at 0 4 LOST c.args.h.now 0 (omega arith))
