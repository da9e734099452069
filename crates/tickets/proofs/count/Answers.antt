use Rattle.std.proofs.Common.{◌∙◌}
use Rattle.tickets.specs.Fits.{count_is}
use Rattle.tickets.proofs.count.Goals as goal

pub returns : goal.returns
returns c = c.count.ensures.is ∙ count_is _
