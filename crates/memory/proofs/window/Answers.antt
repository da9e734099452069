use Rattle.std.proofs.Common.{rules}
use Rattle.memory.specs.View.{window_at, no_window}
use Rattle.memory.proofs.window.Goals as goal

pub returns-then-sender-ge16 : goal.returns-then-sender-ge16
returns-then-sender-ge16 c = no_window _ _ (search rules) (search rules)

pub returns : goal.returns
returns c = window_at _ _ (search rules)
