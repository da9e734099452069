use Rattle.std.proofs.Common.{inl, inr}
use Rattle.sends.specs.Ticket.{growth}
use Rattle.sends.proofs.ticket.Ticket.growth.Goals as goal

-- A ticket to come is asked for, and a new one is noted;
-- one that was found is noted already, and where a number is too high nothing is sent.
pub returns-in-Remote : goal.returns-in-Remote
unfolding growth
returns-in-Remote c = elim c.in-Remote.is [ inl e ↦ rw e | inr e ↦ rw e.1 ]

pub returns-in-Found : goal.returns-in-Found
unfolding growth
returns-in-Found c = elim c.in-Found.is [ inl e ↦ rw e.1 | inr e ↦ rw e ]
