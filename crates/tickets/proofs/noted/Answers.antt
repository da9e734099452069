use Rattle.std.proofs.Common.{◌∙◌, ap}
use Rattle.protocol.specs.Tickets.{mark_noted}
use Rattle.tickets.specs.Table.{packed}
use Rattle.tickets.proofs.noted.Goals as goal

pub returns : goal.returns
unfolding mark_noted
returns c = c.pack.ensures ∙ ap (λ e. packed (mark_noted e)) c.unpack.ensures
