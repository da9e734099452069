-- `head::is_set` meets its contract: the first word.
use Rattle.std.proofs.Common.{arith}
use Rattle.words.specs.Part.{part_at}
use Rattle.head.specs.Head.{SET, job_of}
use Rattle.head.proofs.is_set.Goals as goal

pub returns : goal.returns
unfolding job_of
returns c = rw (part_at 0 4 SET c.args.h.now 0 (omega arith))
