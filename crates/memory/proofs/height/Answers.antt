use Rattle.std.proofs.Common.{rules}
use Rattle.memory.specs.View.{height_at}
use Rattle.memory.proofs.height.Goals as goal

pub returns : goal.returns
returns c = height_at _
