-- Logs, tables and heights of a store's view, by the places that they stand at.
use Rattle.std.specs.Prelude.{◌≡◌, refl, List, ℕ, ◌+◌, ◌-◌, ◌≤◌, ◌<◌, take, drop}
use Rattle.std.proofs.Common.{ap, ◌∙◌, arith, drop-drop}
use Rattle.words.specs.Part.{part}
use Rattle.head.specs.{Head.job_of, Kept.part_front}
use Rattle.notelist.specs.Notes.{notes}
use Rattle.memory.specs.{Places.{TABLE, ROW, LOG, MEMORY}, View.{memory_view, log_part, table_part}}
use Rattle.store.specs.{Places.{NOTELIST, live_from, copy_from, notes_from}, View.view, ViewLaws.{live_at, copy_at, notes_at}}
use Rattle.tickets.specs.Table as tickets
use Rattle.logs.specs.Log as logs

-- from a up to e, as it is lent
abbrev pub span : ℕ → ℕ → List ℕ → List ℕ
span a e xs = part a (e - a) xs

-- a row of the memory at a
row_in : (a b e : ℕ) (xs : List ℕ) → b + ROW ≤ MEMORY → e - (a + b) ≡ ROW → part b ROW (part a MEMORY xs) ≡ span (a + b) e xs
row_in a b e xs h d = part_front b ROW MEMORY (drop a xs) h ∙ ap (take ROW) (drop-drop b a xs) ∙ rw d

pub job_at : (xs : List ℕ) → (view xs).job ≡ job_of xs
unfolding view
job_at xs = refl

module _ (xs : List ℕ) (c : ℕ) (h : c < 13) where
  pub live_log : ((view xs).live c).log ≡ logs.entries (span (live_from c + LOG) (live_from c + MEMORY) xs)
  live_log = rw (live_at xs c h, log_part, row_in (live_from c) LOG (live_from c + MEMORY) xs (omega arith) (omega arith))

  pub copy_log : ((view xs).copy c).log ≡ logs.entries (span (copy_from c + LOG) (copy_from c + MEMORY) xs)
  copy_log = rw (copy_at xs c h, log_part, row_in (copy_from c) LOG (copy_from c + MEMORY) xs (omega arith) (omega arith))

  pub copy_table : ((view xs).copy c).table ≡ tickets.entries (span (copy_from c + TABLE) (copy_from c + LOG) xs)
  copy_table = rw (copy_at xs c h, table_part, row_in (copy_from c) TABLE (copy_from c + LOG) xs (omega arith) (omega arith))

  pub copy_height : ((view xs).copy c).height ≡ (memory_view (span (copy_from c) (copy_from c + MEMORY) xs)).height
  copy_height = let e : (copy_from c + MEMORY) - copy_from c ≡ MEMORY = omega arith in ap (λ m. m.height) (copy_at xs c h) ∙ rw e

pub notes_kept : (xs : List ℕ) (p : ℕ) → p < 7 → (view xs).notes p ≡ notes (span (notes_from p) (notes_from p + NOTELIST) xs)
notes_kept xs p h = let e : (notes_from p + NOTELIST) - notes_from p ≡ NOTELIST = omega arith in notes_at xs p h ∙ rw e
