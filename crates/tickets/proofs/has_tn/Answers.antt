use Rattle.std.proofs.Common.{◌∙◌, rules, tests}
use Rattle.std.proofs.lemmas.Iterator.{YieldsList-from_slice}
use Rattle.std.proofs.lemmas.Iterator.Search.{any_from_yields_List}
use Rattle.protocol.specs.Tickets.{has_tn}
use Rattle.tickets.specs.{Table.{entry_of, as_entry}, Read.read_any}
use Rattle.tickets.proofs.has_tn.Goals as goal

pub returns : goal.returns
unfolding has_tn entry_of as_entry
returns c =
    any_from_yields_List (λ w. has_tn c.args.tn (entry_of w)) _ _ _ c.any.ensures.ran (YieldsList-from_slice c.items.result.now (cc)) (λ x b q k. search (rules, tests))
    ∙ read_any _ _ c.items.ensures _
