-- The entry for a sender and an SN changed where it stands.
use Rattle.std.specs.Prelude.{◌≡◌, List, ℕ, ◌%◌, ◌≤◌, ◌<◌, length, get_or, set}
use Rattle.lists.specs.Lists.{change1}
use Rattle.arrays.specs.Place.{place}
use Rattle.protocol.specs.Tickets.{for_message, fill, filled, mark_noted}
use Rattle.words.specs.{Rows.{row, named}, Becomes.Becomes}
use Rattle.item.specs.{Item.{item_of, items}, Both.{both_changed, both_same}}
use Rattle.tickets.specs.{Table.{entry_of, as_entry, packed, entries}, EntryLaws.{by_name, packed_fill, packed_note}}

-- what becomes of a table: its entries, and every bit of their words
abbrev pub Filling : List ℕ → ℕ → ℕ → ℕ → ℕ → List ℕ → Type 0
Filling ws a n v h out = Becomes entries ws out (filled a n v (h % 8) (entries ws)) ×
    (items out ≡ change1 (λ x. for_message a n (as_entry x)) (λ x. packed (fill v h (as_entry x))) (items ws))

abbrev pub Noting : List ℕ → ℕ → ℕ → List ℕ → Type 0
Noting ws a n out = Becomes entries ws out (change1 (for_message a n) mark_noted (entries ws)) ×
    (items out ≡ change1 (λ x. for_message a n (as_entry x)) (λ x. packed (mark_noted (as_entry x))) (items ws))

-- i is the place sought
module _ (ws : List ℕ) (a n : ℕ) (hn : n < 65536) (i : ℕ) (e : i ≡ place (named a n) (row ws)) where
  -- the word x is written there
  module _ (x : ℕ) {out : List ℕ} (b : Becomes row ws out (set (row ws) i x)) (h : i < length (row ws)) where
    pub fill_there : (v hops : ℕ) → item_of x ≡ packed (fill v hops (entry_of (get_or (row ws) i 0))) → Filling ws a n v hops out
    unfolding fill filled entries entry_of
    fill_there v hops d = both_changed as_entry (for_message a n) (fill v (hops % 8)) (λ x. packed (fill v hops (as_entry x))) (packed_fill v hops) (named a n) (by_name a n hn) ws i e x b h d

    pub note_there : item_of x ≡ packed (mark_noted (entry_of (get_or (row ws) i 0))) → Noting ws a n out
    unfolding entries entry_of
    note_there d = both_changed as_entry (for_message a n) mark_noted (λ x. packed (mark_noted (as_entry x))) packed_note (named a n) (by_name a n hn) ws i e x b h d

  -- there is none
  pub fill_none : length (row ws) ≤ i → (v hops : ℕ) → Filling ws a n v hops ws
  unfolding filled entries entry_of
  fill_none h v hops = both_same as_entry (for_message a n) (fill v (hops % 8)) (λ x. packed (fill v hops (as_entry x))) (packed_fill v hops) (named a n) (by_name a n hn) ws i e h

  pub note_none : length (row ws) ≤ i → Noting ws a n ws
  unfolding entries entry_of
  note_none h = both_same as_entry (for_message a n) mark_noted (λ x. packed (mark_noted (as_entry x))) packed_note (named a n) (by_name a n hn) ws i e h
