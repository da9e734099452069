use Rattle.std.proofs.Common.{rules}
use Rattle.protocol.specs.{Checkpoint.above_height, Tickets.mark_noted}
use Rattle.item.specs.Both.{both_sifted}
use Rattle.tickets.specs.{Table.{as_entry, entry_of, entries, packed}, EntryLaws.packed_note}
use Rattle.tickets.proofs.prune.Goals as goal

pub returns : goal.returns
unfolding entries entry_of as_entry above_height
returns c =
    let stay = both_sifted as_entry (above_height c.args.height) mark_noted (λ x. packed (mark_noted (as_entry x))) packed_note (c.sift.ensures _ _ (λ w o h p. search rules)) in
    record { row = stay.0; words = stay.1 }
