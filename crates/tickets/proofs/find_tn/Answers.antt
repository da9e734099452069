use Rattle.std.proofs.Common.{rules, tests, arith}
use Rattle.std.proofs.lemmas.Grind.{common_steps}
use Rattle.std.proofs.lemmas.Iterator.{YieldsList-from_slice}
use Rattle.std.proofs.lemmas.Iterator.Consumers.{YieldsList-from_copied, YieldsList-at}
use Rattle.std.proofs.lemmas.Iterator.Search.{find_from_yields_List}
use Rattle.protocol.specs.Tickets.{has_tn}
use Rattle.tickets.specs.{Table.{entry_of, as_entry}, Read.read_find}
use Rattle.tickets.proofs.find_tn.Goals as goal

pub returns : goal.returns
unfolding has_tn entry_of as_entry
returns c =
    read_find _ _ c.items.ensures _ c.find.result c.map.result
    (find_from_yields_List (λ w. has_tn c.args.tn (entry_of w)) _ _ c.find.result c.find.ensures.ran (YieldsList-from_copied (YieldsList-at c.copied.ensures.source (YieldsList-from_slice c.items.result.now (cc)))) (λ x b q k. search (rules, tests)))
    (grind (arith, common_steps))
