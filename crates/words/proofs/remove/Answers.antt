use Rattle.std.proofs.Common.{sym, arith}
use Rattle.words.specs.{Rows.{row, without_none}, Becomes.{becomes_same}, Removal.{becomes_without}}
use Rattle.words.proofs.remove.Goals as goal

pub returns-then-n-at : goal.returns-then-n-at
returns-then-n-at c = becomes_same row _ (sym (without_none _ _ (omega arith)))

pub returns : goal.returns
returns c = becomes_without _ _ _ _ c.copy_within.ensures.after c.count-n.ensures.is (omega arith)
