-- `head::cell` meets its contract: 0 at 0, the clamped word elsewhere.
use Rattle.head.specs.{Head.cell, Cells.cell_read}
use Rattle.head.proofs.cell.Goals as goal

pub returns-then-k-eq0-clause-is : goal.returns-then-k-eq0-clause-is
returns-then-k-eq0-clause-is c = unfold cell in rw c.if-k-eq0.true

pub returns-clause-is : goal.returns-clause-is
returns-clause-is c = (cell_read _ _ _ c.if-k-eq0.false _ _ c.word.ensures c.min.ensures).0
