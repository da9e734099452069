-- The loop that reads a row: its first i records were read, and all are good.
use Rattle.std.specs.Prelude.{◌≡◌, refl, true, false, List, ℕ, suc, ◌+◌, ◌<◌, ◌≤◌, min, length, take, drop, get_or, set}
use Rattle.std.proofs.Common.{sym, ap, ◌∙◌, arith, add-one}
use Rattle.std.proofs.lemmas.List.{length-replicate}
use Rattle.precedes.specs.{declared.Processing.Processing, Precedes.{name, origin, good, first_bad, bad_place}, Rows.{nobody, rec}, Chains.previous}
use Rattle.precedes.specs.{Links.{SLOTS, tabled, slot, found, admits}}
use Rattle.precedes.specs.Reading.{Reading, read_to, read_all, read_some, zeros, reading_none, reading_more, the_tabled}
use Rattle.precedes.proofs.{Admitted.{admits_right}, Reading.{bad_start, bad_none, bad_next, bad_here, bad_past}}

pub record SoFar (row : List Processing) (i : ℕ) (at before sent : List ℕ) : Type 0 where
  pub low : i ≤ min (length row) 512
  pub reading : Reading row i at before sent
  pub place : bad_place row ≡ first_bad (take i row) (drop i row)

pub none_read : (row : List Processing) → SoFar row 0 (zeros SLOTS) (zeros 512) (zeros 512)
none_read row = record { low = omega arith; reading = reading_none row; place = bad_start row }

module _ {row : List Processing} {i : ℕ} {at before sent : List ℕ} (s : SoFar row i at before sent) where
  -- the lent arrays keep their lengths
  pub at_kept : (l : List ℕ) → l ≡ zeros SLOTS → length at ≡ length l
  at_kept l e = s.reading.at_long ∙ sym (ap length e ∙ length-replicate {A = ℕ} SLOTS 0)

  pub before_kept : (l : List ℕ) → l ≡ zeros 512 → length before ≡ length l
  before_kept l e = s.reading.before_long ∙ sym (ap length e ∙ length-replicate {A = ℕ} 512 0)

  pub sent_kept : (l : List ℕ) → l ≡ zeros 512 → length sent ≡ length l
  sent_kept l e = s.reading.sent_long ∙ sym (ap length e ∙ length-replicate {A = ℕ} 512 0)

  -- all records were read
  pub all_read : length row ≤ i → (0 ≡ bad_place row) × Reading row (read_to row 0) at before sent
  all_read e =
      let whole : i ≡ length row = omega (arith, s.low) in
      (sym (s.place ∙ rw whole (bad_none row)), rw (read_all row 0 refl, sym whole) s.reading)

  module _ (in_row : i < length row) where
    pub past_bad : i ≡ 512 → (513 ≡ bad_place row) × Reading row (read_to row 513) at before sent
    past_bad e = (sym (s.place ∙ bad_here row i in_row (bad_past row i in_row (omega arith)) ∙ omega arith), rw (read_some row 513 i (omega arith)) s.reading)

    module _ (room : i ≡ 512 → ⊥) where
      inside : i < 512
      inside = omega (arith, s.low)

      -- the record at i
      abbrev p : Processing
      p = rec row i

      tested : admits at p ≡ good (take i row) (rec row i)
      tested = admits_right row i at s.reading.good_so_far s.reading.knows inside

      pub one_bad : admits at p ≡ false → (i + 1 ≡ bad_place row) × Reading row (read_to row (i + 1)) at before sent
      one_bad e = (sym (s.place ∙ bad_here row i in_row (sym tested ∙ e)), rw (read_some row (i + 1) i refl) s.reading)

      module _ (e : admits at p ≡ true) where
        fine : good (take i row) (rec row i) ≡ true
        fine = sym tested ∙ e

        pub record_tabled : tabled (name p) ≡ true
        record_tabled = the_tabled row i at before sent s.reading in_row inside fine

        pub one_more : {at' before' sent' : List ℕ} → at' ≡ set at (slot (name p)) (suc i) → before' ≡ set before i (found at (previous p)) → sent' ≡ set sent i (found at (origin p))
            → SoFar row (i + 1) at' before' sent'
        one_more a b c = rw (a, b, c) (record {
          low = omega (arith, s.low, inside, in_row);
          reading = rw (add-one i) (reading_more row i at before sent s.reading in_row inside fine);
          place = s.place ∙ rw (add-one i) (bad_next row i in_row fine);
        })
