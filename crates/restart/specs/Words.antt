-- A table every word of which is an entry packed, so that no bit stands beside what its entry says. What a restart builds is one.
use Rattle.std.specs.Prelude.{◌≡◌, refl, Bool, List, [], ◌∷◌, map, ℕ, ◌-◌, ◌%◌, ◌<◌, ltb, length, set}
use Rattle.std.proofs.Common.{sym, ap, ◌∙◌, arith, mod-eq_of_lt, inl, inr}
use mathlib.Core.List.Memᴰ.{head as here, tail as there}
use Rattle.lists.specs.{Tests.either, Lists.{All, all_nil, all_snoc, anyb, change1, change1_mem}}
use Rattle.arrays.specs.Front.{push}
use Rattle.protocol.specs.{declared.Entry.Entry, Tickets.{for_message, unreceived}}
use Rattle.words.specs.Rows.{row, row_cut}
use Rattle.item.specs.{declared.Item.Item, Item.{item_of, items}}
use Rattle.tickets.specs.{Table.{as_entry, entry_of, fitted, packed, entries, Entering}, EntryLaws.packed_entry}
use Rattle.memory.specs.Places.{ROW}

abbrev pub IsPacked : Item → Type 0
IsPacked x = (e : Entry) × (x ≡ packed e)

abbrev pub AllPacked : List ℕ → Type 0
AllPacked ws = All IsPacked (items ws)

-- a row whose count is 0
pub packed_none : (ws : List ℕ) → length ws ≡ ROW → AllPacked (set ws 0 0)
unfolding items
packed_none ws size = rw (row_cut ws 0 (omega arith) (omega arith)) (all_nil _)

pub packed_enter : {before after : List ℕ} {s n tn : ℕ} {r : Bool} → Entering before s n tn after r → AllPacked before → AllPacked after
unfolding push
packed_enter {before} {s = s} {n} {tn} h p = rw h.words (either (anyb (for_message s n) (entries before))
    (λ e. rw e p)
    (λ e. rw e (either (ltb (length (items before)) (length before - 1)) (λ f. rw f (all_snoc (items before) p (unreceived s n tn, refl))) (λ f. rw f p))))

pub packed_change : (before after : List ℕ) (q : Item → Bool) (g : Entry → Entry) → items after ≡ change1 q (λ x. packed (g (as_entry x))) (items before) → AllPacked before → AllPacked after
packed_change before after q g h p x i = elim (change1_mem q (λ y. packed (g (as_entry y))) (items before) (rw h at i)) [ inl j ↦ p x j | inr k ↦ (g (as_entry k.0), k.3) ]

-- its words, every bit
fit_packed : (e : Entry) → packed (fitted e) ≡ packed e
unfolding packed fitted
fit_packed e =
    let a : e.sender % 16 < 16 = omega arith in
    let b : e.hops % 8 < 8 = omega arith in
    rw (mod-eq_of_lt a, mod-eq_of_lt b)

pub packed_words : (ws : List ℕ) → AllPacked ws → items ws ≡ map packed (entries ws)
unfolding items entries
packed_words ws p = go (row ws) p
  where
    go : (l : List ℕ) → All IsPacked (map item_of l) → map item_of l ≡ map packed (map entry_of l)
    go [] q = refl
    go (w ∷ l) q =
        let (e, d) = q (item_of w) (here refl) in
        let f : item_of w ≡ packed (entry_of w) = d ∙ sym (ap packed (packed_entry w e d) ∙ fit_packed e) in
        rw (← f) (ap (item_of w ∷◌) (go l (λ x i. q x (there i))))
