use Rattle.std.proofs.Common.{sym, arith}
use Rattle.std.proofs.Math.Seq.{set_out}
use Rattle.words.specs.{Rows.row, Becomes.{becomes_set, becomes_same}}
use Rattle.words.proofs.write.Goals as goal

pub returns-then-i-count : goal.returns-then-i-count
returns-then-i-count c = becomes_set _ _ _ (omega arith)

pub returns-else-i-count : goal.returns-else-i-count
returns-else-i-count c = becomes_same row _ (sym (set_out _ _ _ (omega arith)))
