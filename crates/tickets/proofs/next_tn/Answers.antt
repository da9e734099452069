use Rattle.std.specs.Prelude.{◌+◌}
use Rattle.std.proofs.Common.{ap, ◌∙◌}
use Rattle.protocol.specs.Tickets.{next_tn, hole_or}
use Rattle.tickets.proofs.next_tn.Goals as goal

pub returns-in-Some : goal.returns-in-Some
unfolding next_tn hole_or
returns-in-Some c = rw (← c.in-Some.ensures) c.from.ensures

pub returns-in-None : goal.returns-in-None
unfolding next_tn hole_or
returns-in-None c = rw (← c.in-None.ensures) (ap (◌+ 1) (c.from-in-None.ensures ∙ c.highest.ensures))
