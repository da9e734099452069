-- `jobline::chare_byte` meets its contract: the byte at its place.
use Rattle.std.proofs.Common.{◌∙◌}
use Rattle.protocol.specs.Job.{chare_byte, machines_of}
use Rattle.jobline.proofs.chare_byte.Goals as goal

pub returns : goal.returns
unfolding chare_byte machines_of
returns c = c.byte.ensures ∙ rw c.byte-machines.ensures
