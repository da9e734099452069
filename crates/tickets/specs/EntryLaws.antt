-- One word as an entry: its fields, its name, and what changes of it fit a word again.
use Rattle.std.specs.Prelude.{◌≡◌, refl, Bool, true, false, ℕ, ◌+◌, ◌*◌, ◌/◌, ◌%◌, ◌<◌, eqb}
use Rattle.std.proofs.Common.{◌∙◌, ap, mod-eq_of_lt}
use Rattle.protocol.specs.{declared.Entry.Entry, Tickets.{for_message, fill, mark_noted}}
use Rattle.words.specs.{Fields.bit, Rows.named}
use Rattle.item.specs.Item.{item_of, clipped, peer_small, hops_small, by_name as item-name}
use Rattle.tickets.specs.Table.{entry_of, as_entry, fitted, packed}

-- sender and SN are the name
pub by_name : (s n : ℕ) → n < 65536 → (w : ℕ) → for_message s n (entry_of w) ≡ named s n w
unfolding for_message entry_of as_entry
by_name s n hn w = item-name s n hn w

-- the flags
flags_fit : (r d : Bool) → (bit r + 2 * bit d) % 4 ≡ bit r + 2 * bit d
flags_fit true true = refl
flags_fit true false = refl
flags_fit false true = refl
flags_fit false false = refl

flags_say : (r d : Bool) → (eqb ((bit r + 2 * bit d) % 2) 1 ≡ r) × (eqb ((bit r + 2 * bit d) / 2) 1 ≡ d)
flags_say true true = (refl, refl)
flags_say true false = (refl, refl)
flags_say false true = (refl, refl)
flags_say false false = (refl, refl)

pub item_says : (w f : ℕ) (e : Entry) → item_of w ≡ clipped (record { sn = e.sn; peer = e.sender; owner = 0; kind = 0; tn = e.tn; value = e.value; hops = e.hops; flags = f }) → f ≡ bit e.received + 2 * bit e.noted → item_of w ≡ packed e
unfolding packed clipped
item_says w f e a b = rw (a, b, flags_fit e.received e.noted)

packed_says : (e : Entry) → as_entry (packed e) ≡ fitted e
unfolding as_entry packed fitted
packed_says e = let (lower, upper) = flags_say e.received e.noted in rw (lower, upper)

pub packed_entry : (w : ℕ) (e : Entry) → item_of w ≡ packed e → entry_of w ≡ fitted e
unfolding entry_of
packed_entry w e d = ap as_entry d ∙ packed_says e

pub sender_small : (w : ℕ) → (entry_of w).sender < 16
unfolding entry_of as_entry
sender_small w = peer_small w

-- an entry of a table, filled or noted, fits
pub packed_fill : (v h w : ℕ) → as_entry (packed (fill v h (entry_of w))) ≡ fill v (h % 8) (entry_of w)
packed_fill v h w = packed_says (fill v h (entry_of w)) ∙ unfold fitted fill in rw (mod-eq_of_lt (sender_small w))

pub packed_note : (w : ℕ) → as_entry (packed (mark_noted (entry_of w))) ≡ mark_noted (entry_of w)
packed_note w = packed_says (mark_noted (entry_of w)) ∙ unfold fitted mark_noted entry_of as_entry in rw (mod-eq_of_lt (peer_small w), mod-eq_of_lt (hops_small w))
