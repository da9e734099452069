use Rattle.std.proofs.Common.{lt-ltb, le-ltb}
use Rattle.sends.specs.Ticket.{sn_next}
use Rattle.sends.proofs.message.sn_next.Goals as goal

pub returns-then-last-lt60000 : goal.returns-then-last-lt60000
unfolding sn_next
returns-then-last-lt60000 c = rw (lt-ltb c.args.last 60000 c.if-last-lt60000.true)

pub returns-else-last-lt60000 : goal.returns-else-last-lt60000
unfolding sn_next
returns-else-last-lt60000 c = rw (le-ltb c.args.last 60000 c.if-last-lt60000.false)
