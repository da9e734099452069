use Rattle.std.proofs.Common.{inl, inr}
use Rattle.sends.specs.Ticket.{tn_of}
use Rattle.sends.proofs.ticket.Ticket.tn.Goals as goal

-- A ticket to come has no TN yet,
-- and where a number is too high there is none.
pub returns-in-Remote : goal.returns-in-Remote
unfolding tn_of
returns-in-Remote c = elim c.in-Remote.is [ inl e ↦ rw e | inr e ↦ rw e ]

pub returns-in-Found : goal.returns-in-Found
unfolding tn_of
returns-in-Found c = elim c.in-Found.is [ inl e ↦ rw e | inr e ↦ rw e ]

pub returns-in-Found-2 : goal.returns-in-Found-2
unfolding tn_of
returns-in-Found-2 c = elim c.in-Found.is [ inl e ↦ rw e | inr e ↦ rw e ]
