-- `opening::begin` meets its contract: zeros, the head over them, the chares' states.
use Rattle.std.proofs.Common.{◌∙◌, arith}
use Rattle.protocol.specs.Job.{chares_of}
use Rattle.jobline.specs.JobLaws.{in_range}
use Rattle.opening.specs.Begun.{begins}
use Rattle.opening.proofs.begin.Goals as goal

pub start_chares-requires : goal.start_chares-requires
unfolding chares_of
start_chares-requires c =
    let r = in_range _ c.requires in
    omega (arith, r.chares, c.byte.ensures)

pub returns : goal.returns
returns c =
    begins _ c.requires _ c.byte.ensures _ _ c.clear.ensures c.told-s _ c.write_head.ensures _ c.start_chares.ensures
