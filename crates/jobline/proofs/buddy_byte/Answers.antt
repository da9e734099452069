-- `jobline::buddy_byte` meets its contract: the byte at its place.
use Rattle.protocol.specs.Job.{buddy_byte}
use Rattle.jobline.proofs.buddy_byte.Goals as goal

pub returns : goal.returns
unfolding buddy_byte
returns c = c.byte.ensures
