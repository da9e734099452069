use Rattle.std.proofs.Common.{rules}
use Rattle.memory.specs.View.{top_at}
use Rattle.memory.proofs.top.Goals as goal

pub returns : goal.returns
returns c = top_at _
