use Rattle.tickets.specs.Table.{entry_of, as_entry}
use Rattle.tickets.proofs.unpack.Goals as goal

pub returns : goal.returns
returns c = unfold entry_of as_entry in rw c.unpack-x.ensures
