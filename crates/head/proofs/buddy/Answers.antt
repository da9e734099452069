-- `head::buddy` meets its contract: a cell of the view.
use Rattle.head.specs.Head.{job_of}
use Rattle.head.proofs.buddy.Goals as goal

pub returns : goal.returns
unfolding job_of
returns c = record { is = c.cell.ensures.is; small = c.cell.ensures.small }
