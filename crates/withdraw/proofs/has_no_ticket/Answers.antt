-- `has_no_ticket`: an entry, or none.
use Rattle.std.specs.Prelude.{◌≡◌, refl, Bool, not, Option, None, Some}
use Rattle.std.specs.Option.{is_some}
use Rattle.std.proofs.Common.{sym, ap, ◌∙◌, rules, tests}
use Rattle.lists.specs.Options.{maybe}
use Rattle.protocol.specs.{declared.Entry.Entry, Tickets.entry, Questions.no_entry}
use Rattle.memory.specs.View.{table_part}
use Rattle.withdraw.proofs.has_no_ticket.Goals as goal

none_there : (o : Option Entry) (b : Bool) → is_some o ≡ not b → b ≡ no_entry (maybe o)
unfolding no_entry
none_there None b e = search (rules, tests)
none_there (Some x) b e = search (rules, tests)

pub returns : goal.returns
returns c =
    let a = c.args in
    none_there c.find.result _ c.is_none.ensures ∙ ap no_entry (c.find.ensures ∙ sym (ap (λ l. entry l 0 a.n) (table_part a.m.now)))
