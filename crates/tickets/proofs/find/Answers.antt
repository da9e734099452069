use Rattle.std.proofs.Common.{sym, ◌∙◌, ap, rules}
use Rattle.std.proofs.Math.Option.{some}
use Rattle.protocol.specs.Tickets.{for_message, entry}
use Rattle.words.specs.Mapped.{find_at, find_no}
use Rattle.tickets.specs.{Table.{entry_of, entries}, Fits.entry_at, EntryLaws.by_name}
use Rattle.tickets.proofs.find.Goals as goal

pub returns-in_err-i : goal.returns-in_err-i
unfolding entry entries
returns-in_err-i c =
    rw c.from_residual.ensures (sym (find_no entry_of _ (for_message _ _) (by_name _ _ (search rules)) _ _ c.in_err-i.ensures.is (search rules)))

pub returns : goal.returns
unfolding entry entries
returns c =
    ap some (c.at.ensures ∙ entry_at _ _) ∙ sym (find_at entry_of _ (for_message _ _) (by_name _ _ (search rules)) _ _ c.in_ok-i.ensures.is c.in_ok-i.ensures.within)
