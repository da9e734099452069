-- A table as it is built in an empty row: three walks that enter tickets, each from the table that the one before left, then the messages that fill.
use Rattle.std.specs.Prelude.{◌≡◌, refl, Bool, true, false, List, [], ℕ, ◌+◌, ◌<◌, leb, length, set}
use Rattle.std.proofs.Common.{sym, ◌∙◌, arith}
use Rattle.lists.specs.Lists.{gather}
use Rattle.protocol.specs.{declared.Entry.Entry, Parts.{State, every_sender, every_chare}, Restart.{enter, restored_table, filled_table, local_log}}
use Rattle.protocol.proofs.Recovery.Laws.Filled.{length_filled_table}
use Rattle.words.specs.Rows.{row_cut}
use Rattle.tickets.specs.Table.{entries}
use Rattle.notelist.specs.Notes.{notes}
use Rattle.memory.specs.{Places.{TABLE, LOG, ROW, MEMORY}, View.memory_view}
use Rattle.store.specs.{Places.{NOTELIST, copy_from, notes_from}, View.view}
use Rattle.restart.specs.{Limited.{held, limit, held_same, more, more_none, more_append}, Tables.{entering, entering_all}, Fills.filling}
use Rattle.restart.specs.{Stored.{span, copy_table, copy_height, notes_kept}, Sources.{copied, noted, sender_tickets, known_is}}

-- a row whose count is 0
emptied : (ws : List ℕ) → length ws ≡ ROW → entries (set ws 0 0) ≡ []
unfolding entries
emptied ws size = rw (row_cut ws 0 (omega arith) (omega arith))

-- ---- filled tables have as many entries as they had before
module _ (s : State) (p c : ℕ) (l : List Entry) where
  unfit : held false l ≡ limit 16 (restored_table s p c) → held false l ≡ limit 16 (filled_table s p c)
  unfolding limit held
  unfit e = rw (length_filled_table s p c, ← (held_same false (leb (length (restored_table s p c)) 16) l (restored_table s p c) e).0)

  fit : held true l ≡ limit 16 (restored_table s p c) → (k : List Entry) → k ≡ filling c (s.copy c).height l (gather (local_log s p) every_chare) → held true k ≡ limit 16 (filled_table s p c)
  unfolding limit filled_table filling
  fit e k q = rw (length_filled_table s p c, ← (held_same true _ l _ e).0, ← (held_same true _ l _ e).1 refl, q)

module _ (xs : List ℕ) (p c : ℕ) (hp : p < 7) (hc : c < 13) (h : ℕ) (height : h ≡ (memory_view (span (copy_from c) (copy_from c + MEMORY) xs)).height) (ws : List ℕ) (size : length ws ≡ ROW) where
  abbrev copieds : List Entry
  copieds = gather copied (entries (span (copy_from c + TABLE) (copy_from c + LOG) xs))

  abbrev senders : List Entry
  senders = gather (sender_tickets (view xs) p c h) every_sender

  abbrev noteds : List Entry
  noteds = gather (noted c h) ((view xs).notes p)

  same_height : h ≡ ((view xs).copy c).height
  same_height = height ∙ sym (copy_height xs c hc)

  after_first : (x : Bool) (a : List ℕ) → held x (entries a) ≡ entering (entries (set ws 0 0)) copieds → more 16 enter (more 16 enter (held x (entries a)) senders) noteds ≡ limit 16 (restored_table (view xs) p c)
  unfolding restored_table
  after_first x a first =
      rw (first, emptied ws size, ← copy_table xs c hc, ← more_append 16 enter _ senders noteds, ← more_append 16 enter)
      (entering_all [] _ (omega arith) ∙ rw (known_is (view xs) p c, same_height))

  pub build_stop : (a : List ℕ) → held false (entries a) ≡ entering (entries (set ws 0 0)) copieds → held false (entries a) ≡ limit 16 (filled_table (view xs) p c)
  unfolding held
  build_stop a first = unfit (view xs) p c (entries a) (sym (more_none 16 enter noteds) ∙ rw (← more_none 16 enter senders) (after_first false a first))

  module _ (a : List ℕ) (first : held true (entries a) ≡ entering (entries (set ws 0 0)) copieds) where
    after_second : (y : Bool) (b : List ℕ) → held y (entries b) ≡ entering (entries a) senders → more 16 enter (held y (entries b)) noteds ≡ limit 16 (restored_table (view xs) p c)
    after_second y b second = rw second (after_first true a first)

    pub build_stop_2 : (b : List ℕ) → held false (entries b) ≡ entering (entries a) senders → held false (entries b) ≡ limit 16 (filled_table (view xs) p c)
    unfolding held
    build_stop_2 b second = unfit (view xs) p c (entries b) (sym (more_none 16 enter noteds) ∙ after_second false b second)

    module _ (b : List ℕ) (second : held true (entries b) ≡ entering (entries a) senders) where
      abbrev kept : List Entry
      kept = gather (noted c h) (notes (span (notes_from p) (notes_from p + NOTELIST) xs))

      all_three : (z : Bool) (d : List ℕ) → held z (entries d) ≡ entering (entries b) kept → held z (entries d) ≡ limit 16 (restored_table (view xs) p c)
      all_three z d third = third ∙ rw (← notes_kept xs p hp) (after_second true b second)

      pub build_stop_3 : (d : List ℕ) → held false (entries d) ≡ entering (entries b) kept → held false (entries d) ≡ limit 16 (filled_table (view xs) p c)
      build_stop_3 d third = unfit (view xs) p c (entries d) (all_three false d third)

      pub build_all : (d : List ℕ) → held true (entries d) ≡ entering (entries b) kept → (out : List ℕ) → entries out ≡ filling c h (entries d) (gather (local_log (view xs) p) every_chare) → held true (entries out) ≡ limit 16 (filled_table (view xs) p c)
      build_all d third out put = fit (view xs) p c (entries d) (all_three true d third) (entries out) (put ∙ rw same_height)
