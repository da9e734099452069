use Rattle.std.proofs.Common.{rules}
use Rattle.memory.specs.View.{state_at}
use Rattle.memory.proofs.state.Goals as goal

pub returns : goal.returns
returns c = state_at _
