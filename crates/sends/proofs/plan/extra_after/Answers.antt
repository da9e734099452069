use Rattle.std.proofs.Common.{rules}
use Rattle.std.proofs.Math.Bool.{and-false}
use Rattle.sends.specs.{Plan.extra_after, Ticket.{is_new, tn_of, not_new}}
use Rattle.sends.proofs.plan.extra_after.Goals as goal

pub returns-in-New : goal.returns-in-New
unfolding extra_after is_new tn_of
returns-in-New c = rw (c.if-same.true, c.in-New.is)

pub returns-in_default : goal.returns-in_default
unfolding extra_after
returns-in_default c = rw c.if-same.false

pub returns-in_default-2 : goal.returns-in_default-2
unfolding extra_after
returns-in_default-2 c = rw (not_new c.args.k (λ t e. search rules), and-false c.args.same)
