-- `work` adds the value to the rotated state, modulo 2^32.
use Rattle.std.proofs.Common.{rules}
use Rattle.protocol.specs.Work.{work}
use Rattle.window.proofs.work.Goals as goal

pub returns : goal.returns
unfolding work
returns c = search rules
