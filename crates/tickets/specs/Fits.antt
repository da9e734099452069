-- A table has at most as many entries as there is room behind the count, and what is found in it fits a word.
use Rattle.std.specs.Prelude.{◌≡◌, Bool, List, ℕ, ◌-◌, ◌<◌, ◌≤◌, length, get_or}
use Rattle.std.proofs.Common.{sym, arith}
use Rattle.std.proofs.Math.ListN.{get_or-map as List·getD-map}
use Rattle.std.proofs.Math.Option.{some}
use Rattle.std.proofs.lemmas.List.{length-map}
use Rattle.lists.specs.Lists.{find}
use Rattle.protocol.specs.declared.Entry.{Entry}
use Rattle.words.specs.{Rows.row, Mapped.find_holds}
use Rattle.item.specs.{Item.item_of, Held.held_fit}
use Rattle.tickets.specs.Table.{entry_of, as_entry, entries}

pub count_is : (ws : List ℕ) → length (row ws) ≡ length (entries ws)
unfolding entries
count_is ws = sym (length-map (row ws) entry_of)

-- the entry at i
pub entry_at : (ws : List ℕ) (i : ℕ) → get_or (entries ws) i (entry_of 0) ≡ entry_of (get_or (row ws) i 0)
unfolding entries
entry_at ws i = List·getD-map entry_of (row ws) i 0

pub entries_fit : (ws : List ℕ) → length (entries ws) ≤ length ws - 1
unfolding entries
entries_fit ws = held_fit entry_of ws

abbrev pub InRange : Entry → Type 0
InRange e = (e.sender < 16) × (e.hops < 8) × (e.value < 65536) × (e.tn < 65536) × (e.sn < 65536)

pub found_fits : (ws : List ℕ) (q : Entry → Bool) {e : Entry} → find q (entries ws) ≡ some e → InRange e
unfolding entries entry_of as_entry item_of
found_fits ws q d = find_holds entry_of InRange (λ w. (omega arith, omega arith, omega arith, omega arith, omega arith)) q (row ws) d
