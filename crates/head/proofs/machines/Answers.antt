-- `head::machines` meets its contract: the clamp is that of the view.
use Rattle.std.proofs.Common.{◌∙◌, arith}
use Rattle.words.specs.Part.{part_at}
use Rattle.head.specs.Head.{MACHINES, job_of}
use Rattle.head.proofs.machines.Goals as goal

pub returns-clause-is : goal.returns-clause-is
unfolding job_of
returns-clause-is c = c.min.ensures ∙ rw (part_at 0 4 MACHINES c.args.h.now 0 (omega arith))
