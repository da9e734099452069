-- The first i records were read, and all are good.
use Rattle.precedes.proofs.Steps.{SoFar}
use Rattle.precedes.proofs.links.link.Given as goal

abbrev pub invariant-loop-i : goal.invariant-loop-i
invariant-loop-i l = SoFar l.row l.i l.at l.before l.sent
