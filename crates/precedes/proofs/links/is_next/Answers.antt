-- `links::is_next` meets its contract.
use Rattle.std.specs.Prelude.{◌≡◌, true, leb}
use Rattle.std.proofs.Common.{sym, ◌∙◌, arith, eq-eqb, ne_eqb, le-leb}
use Rattle.precedes.specs.Links.{next_by, is_found, not_found}
use Rattle.precedes.proofs.links.is_next.Goals.{then-tn-eq0-via-then-tn-eq0, then-tn-eq0-via-else-tn-eq0+then-is_some}
use Rattle.precedes.proofs.links.is_next.Goals as goal

pub returns-then-tn-eq0 : goal.returns-then-tn-eq0
unfolding next_by
returns-then-tn-eq0 c = elim c.then-tn-eq0.branch [
  | then-tn-eq0-via-then-tn-eq0 w ↦ rw w.if-tn-eq0.true
  | then-tn-eq0-via-else-tn-eq0+then-is_some w ↦
      let f = w.find.ensures in
      let one : leb 1 c.args.tn ≡ true = le-leb 1 c.args.tn (omega (arith, w.if-tn-eq0.false)) in
      rw (one, not_found _ f.is f.from_one, sym w.is_some.ensures ∙ w.if-is_some.true)
]

pub returns-then-tn-eq1 : goal.returns-then-tn-eq1
unfolding next_by
returns-then-tn-eq1 c =
    let f = c.find.ensures in
    let one : leb 1 c.args.tn ≡ true = le-leb 1 c.args.tn (omega (arith, c.if-tn-eq0.false)) in
    rw (one, not_found _ f.is f.from_one, sym c.is_some.ensures ∙ c.if-is_some.false, eq-eqb _ 1 c.if-tn-eq1.true)

pub returns-else-tn-eq1 : goal.returns-else-tn-eq1
unfolding next_by
returns-else-tn-eq1 c =
    let f = c.find.ensures in
    let g = c.find-else-tn-eq1.ensures in
    let one : leb 1 c.args.tn ≡ true = le-leb 1 c.args.tn (omega (arith, c.if-tn-eq0.false)) in
    rw (one, not_found _ f.is f.from_one, sym c.is_some.ensures ∙ c.if-is_some.false, ne_eqb _ 1 c.if-tn-eq1.false)
    (c.is_some-else-tn-eq1.ensures ∙ is_found _ g.is g.from_one)
