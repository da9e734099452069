use Rattle.sends.specs.Plan.{last_after}
use Rattle.sends.proofs.plan.last_after.Goals as goal

pub returns-then-same : goal.returns-then-same
unfolding last_after
returns-then-same c = rw c.if-same.true c.sn_next.ensures

pub returns-else-same : goal.returns-else-same
unfolding last_after
returns-else-same c = rw c.if-same.false
