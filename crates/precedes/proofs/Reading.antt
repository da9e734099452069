-- The place of the first bad record, as far as a row was read.
use Rattle.std.specs.Prelude.{◌≡◌, refl, true, false, List, ℕ, suc, ◌+◌, ◌<◌, ◌≤◌, length, take, drop}
use Rattle.std.proofs.Common.{arith, le-ltb, take-suc, drop-cons, length-take-le}
use Rattle.std.proofs.Math.Seq.{drop-length}
use Rattle.precedes.specs.{declared.Processing.Processing, Precedes.{has_room, good, first_bad, bad_place}}
use Rattle.precedes.specs.{Rows.{rec, nobody}}

pub bad_start : (row : List Processing) → bad_place row ≡ first_bad (take 0 row) (drop 0 row)
unfolding bad_place
bad_start row = refl

pub bad_none : (row : List Processing) → first_bad (take (length row) row) (drop (length row) row) ≡ 0
unfolding first_bad
bad_none row = rw (drop-length row)

module _ (row : List Processing) (i : ℕ) (l : i < length row) where
  pub bad_next : good (take i row) (rec row i) ≡ true → first_bad (take i row) (drop i row) ≡ first_bad (take (suc i) row) (drop (suc i) row)
  unfolding first_bad
  bad_next g = rw (drop-cons row i nobody l, take-suc row i nobody l) (rw g)

  pub bad_here : good (take i row) (rec row i) ≡ false → first_bad (take i row) (drop i row) ≡ i + 1
  unfolding first_bad
  bad_here g = rw (drop-cons row i nobody l) (rw g (rw (length-take-le i row (omega arith))))

  -- past 512
  pub bad_past : 512 ≤ i → good (take i row) (rec row i) ≡ false
  unfolding good has_room
  bad_past h = rw (length-take-le i row (omega arith), le-ltb i 512 h)
