use Rattle.std.proofs.Common.{arith, lt-length-set}
use Rattle.words.specs.{Rows.{row, row_full}, Becomes.{becomes_push, becomes_same}}
use Rattle.words.proofs.push.Goals as goal

pub bounds-ws-0 : goal.bounds-ws-0
bounds-ws-0 c = let a = c.args in lt-length-set a.ws.now _ _ {i = 0} (omega arith)

pub returns-then-n-ws : goal.returns-then-n-ws
returns-then-n-ws c = becomes_push _ _ _ c.count-n.ensures.is (omega arith)

pub returns-else-n-ws : goal.returns-else-n-ws
returns-else-n-ws c = becomes_same row _ (row_full _ _ (omega arith))
