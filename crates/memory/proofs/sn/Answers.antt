use Rattle.std.proofs.Common.{arith, rules}
use Rattle.memory.specs.{Places.SN, View.{memory_view, word_at, no_word}}
use Rattle.memory.proofs.sn.Goals as goal

pub returns-then-receiver-ge16 : goal.returns-then-receiver-ge16
unfolding memory_view
returns-then-receiver-ge16 c = no_word c.args.m.now c.args.receiver SN (omega arith) c.if-receiver-ge16.true

pub returns : goal.returns
unfolding memory_view
returns c = word_at c.args.m.now c.args.receiver SN c.if-receiver-ge16.false
