-- `opening::write_state` meets its contract: one word.
use Rattle.std.proofs.Common.{rules}
use Rattle.opening.specs.States.{state_set}
use Rattle.opening.proofs.write_state.Goals as goal

pub returns : goal.returns
returns c = state_set _ _ c.requires (search rules)
