use Rattle.std.proofs.Common.{sym, ap, ◌∙◌}
use Rattle.tickets.specs.{Fits.entry_at, Table.entry_of}
use Rattle.tickets.proofs.at.Goals as goal

pub returns : goal.returns
returns c = c.unpack.ensures ∙ ap entry_of c.read.ensures ∙ sym (entry_at _ _)
