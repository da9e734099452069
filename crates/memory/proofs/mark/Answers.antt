use Rattle.std.proofs.Common.{arith, rules}
use Rattle.memory.specs.{Places.MARK, View.{memory_view, mark_at, no_word}}
use Rattle.memory.proofs.mark.Goals as goal

pub returns-then-sender-ge16 : goal.returns-then-sender-ge16
unfolding memory_view
returns-then-sender-ge16 c = no_word c.args.m.now c.args.sender MARK (omega arith) c.if-sender-ge16.true

pub returns : goal.returns
returns c = mark_at _ _ (search rules)
