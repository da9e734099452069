use Rattle.std.specs.Prelude.{◌+◌, ◌-◌, refl, not, ℕ}
use Rattle.std.proofs.Common.{sym, arith, rules, tests}
use Rattle.std.proofs.lemmas.Iterator.{YieldsList-from_range}
use Rattle.std.proofs.lemmas.Iterator.Search.{find_from_yields_List}
use Rattle.lists.specs.Lists.{anyb}
use Rattle.protocol.specs.Tickets.{has_tn}
use Rattle.tickets.specs.{Table.entries, Holes.{none_between, hole_found}}
use Rattle.tickets.proofs.lowest_hole.Goals as goal

pub returns-then-top-height : goal.returns-then-top-height
returns-then-top-height c = sym (none_between _ _ _ (omega arith))

pub returns : goal.returns
returns c =
    let first = c.args.height + 1 in
    let free = λ (t : ℕ). not (anyb (has_tn t) (entries c.args.ws.now)) in
    hole_found _ _ _ c.find.result
    (find_from_yields_List free _ _ c.find.result c.find.ensures.ran (YieldsList-from_range first c.args.top (c.args.top - first) refl refl) (λ x b q k. search (rules, tests)))
