-- The measure is the place: each link leads to a lower one.
use Rattle.precedes.proofs.past.+visit.Given as goal

abbrev pub decreases-visit : goal.decreases-visit
decreases-visit l = l.place
