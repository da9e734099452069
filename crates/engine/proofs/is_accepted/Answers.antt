-- `engine::is_accepted` meets its contract: by the answer.
use Rattle.std.proofs.Common.{inl, inr}
use Rattle.engine.specs.Play.{settles}
use Rattle.engine.proofs.is_accepted.Goals as goal

pub returns-in-Accepted : goal.returns-in-Accepted
unfolding settles
returns-in-Accepted c = elim c.in-Accepted.is [ inl r ↦ rw r.1 | inr s ↦ rw s.2 ]

pub returns-in-Lost : goal.returns-in-Lost
unfolding settles
returns-in-Lost c = elim c.in-Lost.is [ inl e ↦ rw e | inr n ↦ rw n.1 ]
