-- A name outside the table has no place, and another's is read at its slot.
use Rattle.std.proofs.Common.{arith, sym, ◌∙◌}
use Rattle.precedes.specs.Links.{found_in, found_out}
use Rattle.precedes.proofs.links.find.Goals as goal

pub returns-then-chare-eq0-clause-is : goal.returns-then-chare-eq0-clause-is
returns-then-chare-eq0-clause-is c =
    let x = c.args in found_out x.at.now (x.chare, x.tn) (λ r. grind arith)

pub returns-then-place-eq0-clause-is : goal.returns-then-place-eq0-clause-is
returns-then-place-eq0-clause-is c =
    let x = c.args in sym c.if-place-eq0.true ∙ rw c.slot.ensures (found_in x.at.now (x.chare, x.tn) (omega arith) (omega arith) (omega arith) (omega arith))

pub returns-else-place-eq0-clause-is : goal.returns-else-place-eq0-clause-is
returns-else-place-eq0-clause-is c =
    let x = c.args in rw c.slot.ensures (found_in x.at.now (x.chare, x.tn) (omega arith) (omega arith) (omega arith) (omega arith))
