-- `is_above` asks for the receiver, then for the TN.
use Rattle.std.proofs.Common.{eq-eqb, ne_eqb, rules}
use Rattle.protocol.specs.Restart.{is_ticketed_above}
use Rattle.restart.proofs.table.is_above.Goals as goal

pub returns-then-x-c : goal.returns-then-x-c
unfolding is_ticketed_above
returns-then-x-c c = let a = c.args in rw (eq-eqb a.x.message.receiver a.c (search rules))

pub returns-else-x-c : goal.returns-else-x-c
unfolding is_ticketed_above
returns-else-x-c c = let a = c.args in rw (ne_eqb a.x.message.receiver a.c (search rules))
