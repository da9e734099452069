-- `links::good` meets its contract.
use Rattle.std.proofs.Common.{sym, arith}
use Rattle.precedes.specs.{Links.{admits, ranged, not_ranged}}
use Rattle.precedes.proofs.links.good.Goals as goal

pub returns-then-p-eq0 : goal.returns-then-p-eq0
unfolding admits
returns-then-p-eq0 c = rw (not_ranged c.args.p (λ h. grind arith))

pub returns-then-is_sent : goal.returns-then-is_sent
unfolding admits
returns-then-is_sent c =
    rw (ranged c.args.p (omega arith) (omega arith) (omega arith), sym c.is_sent.ensures, c.if-is_sent.true) c.is_next.ensures

pub returns-else-is_sent : goal.returns-else-is_sent
unfolding admits
returns-else-is_sent c =
    rw (ranged c.args.p (omega arith) (omega arith) (omega arith), sym c.is_sent.ensures, c.if-is_sent.false)
