use Rattle.tickets.specs.Table.{fitted}
use Rattle.protocol.specs.Tickets.{unreceived}
use Rattle.tickets.proofs.enter.Goals as goal

pub returns : goal.returns
unfolding unreceived fitted
returns c = record { row = c.push.ensures.row; words = c.push.ensures.words }
