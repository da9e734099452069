-- A ticket entered once.
use Rattle.std.specs.Prelude.{◌≡◌, refl, true, false, List, [], ◌∷◌, ◌++◌, ℕ, ◌+◌, ◌-◌, ◌%◌, ◌<◌, ◌≤◌, length, Option, None, Some, IfSome, is_some, unwrap_or}
use Rattle.std.proofs.Common.{sym, ◌∙◌, arith, mod-eq_of_lt, le-leb, length-append}
use Rattle.std.proofs.lemmas.Bool.{lt-leb}
use Rattle.lists.specs.{Tests.true_not_false, Lists.anyb}
use Rattle.arrays.specs.{Front.{push, push_fits, push_full}, Place.{place, any_there, none_there}}
use Rattle.protocol.specs.{Tickets.{for_message, unreceived}, Restart.enter}
use Rattle.words.specs.{Rows.{row, named}, Becomes.{Becomes, becomes_same, becomes_as}, Mapped.place_map}
use Rattle.item.specs.{Item.items, Both.items_length}
use Rattle.tickets.specs.{Table.{entry_of, entries, packed, Entering}, EntryLaws.by_name, Fits.{count_is, entries_fit}}

some_within : (o : Option ℕ) (k : ℕ) → IfSome o (λ i. i < k) → is_some o ≡ true → unwrap_or o k < k
some_within None k h e = true_not_false e refl
some_within (Some i) k h e = h

none_past : (o : Option ℕ) (k : ℕ) → is_some o ≡ false → k ≤ unwrap_or o k
none_past None k e = omega arith
none_past (Some i) k e = true_not_false refl e

-- what was sought by a sender and an SN: a place in the row, or none
module _ (s n : ℕ) (hn : n < 65536) (ws : List ℕ) (o : Option ℕ) (e : unwrap_or o (length (row ws)) ≡ place (named s n) (row ws)) (w : IfSome o (λ i. i < length (row ws))) where
  here : place (for_message s n) (entries ws) ≡ unwrap_or o (length (row ws))
  unfolding entries
  here = place_map entry_of _ (for_message s n) (by_name s n hn) (row ws) ∙ sym e

  has : is_some o ≡ true → anyb (for_message s n) (entries ws) ≡ true
  has h = any_there (for_message s n) (entries ws) (omega (arith, here, count_is ws, some_within o (length (row ws)) w h))

  lacks : is_some o ≡ false → anyb (for_message s n) (entries ws) ≡ false
  lacks h = none_there (for_message s n) (entries ws) (omega (arith, here, count_is ws, none_past o (length (row ws)) h))

  module _ (tn : ℕ) where
    -- the ticket is a double
    double : is_some o ≡ true → enter (entries ws) (unreceived s n tn) ≡ entries ws
    unfolding enter unreceived
    double h = rw (has h)

    -- it is none
    fresh : is_some o ≡ false → enter (entries ws) (unreceived s n tn) ≡ entries ws ++ (unreceived s n tn ∷ [])
    unfolding enter unreceived
    fresh h = rw (lacks h)

    pub enter_double : is_some o ≡ true → Entering ws s n tn ws true
    enter_double h = record { fits = rw (double h) (sym (le-leb _ _ (entries_fit ws))); table = becomes_same entries ws (sym (double h)); words = rw (has h) }

    more : is_some o ≡ false → length (enter (entries ws) (unreceived s n tn)) ≡ length (row ws) + 1
    more h = rw (fresh h, length-append) (omega (arith, count_is ws))

    pub enter_full : is_some o ≡ false → length ws ≤ length (row ws) + 1 → Entering ws s n tn ws false
    enter_full h g = record { fits = rw (more h) (sym (lt-leb (length (row ws) + 1) (length ws - 1) (omega arith))); table = becomes_same entries ws refl; words = rw (lacks h) (sym (push_full (length ws - 1) (items ws) _ (omega (arith, items_length ws)))) }

    pub enter_room : (out : List ℕ) → is_some o ≡ false → length (row ws) + 1 < length ws → s < 16 → Becomes entries ws out (push (length ws - 1) (entries ws) (unreceived (s % 16) n tn)) → items out ≡ push (length ws - 1) (items ws) (packed (unreceived s n tn)) → Entering ws s n tn out true
    enter_room out h g small a b = record {
      fits = rw (more h) (sym (le-leb (length (row ws) + 1) (length ws - 1) (omega arith)));
      table = becomes_as entries a (rw (mod-eq_of_lt small) (push_fits (length ws - 1) (entries ws) (unreceived s n tn) (omega (arith, count_is ws)) ∙ sym (fresh h)));
      words = rw (lacks h) b;
    }
