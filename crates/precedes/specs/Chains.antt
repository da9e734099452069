-- Links between records: each leads to the place of a name. `proofs/Chains` says that they lead where chains lead.
use Rattle.std.specs.Prelude.{◌≡◌, List, ◌⊎◌, ℕ, suc, ◌-◌, ◌<◌, get_or}
use Rattle.precedes.specs.{declared.Processing.Processing, Precedes.{Name, origin}}
use Rattle.precedes.specs.Rows.{rec, Is}

-- v is the place of this name among the first i records, counted from 1, and 0 where it is not among them
abbrev pub Place : List Processing → ℕ → Name → ℕ → Type 0
Place row i n v = ((v ≡ 0) × ((k : ℕ) → k < i → Is row k n → ⊥)) ⊎ ((k : ℕ) × (k < i) × (v ≡ suc k) × Is row k n)

-- the name of the record before p on its chare
abbrev pub previous : Processing → Name
previous p = (p.chare, p.tn - 1)

-- each of the first n records is linked to the one before it on its chare and to the one that sent its message
pub record Linked (row : List Processing) (n : ℕ) (before sent : List ℕ) : Type 0 where
  pub to_before : (i : ℕ) → i < n → Place row i (previous (rec row i)) (get_or before i 0)
  pub to_sender : (i : ℕ) → i < n → Place row i (origin (rec row i)) (get_or sent i 0)

-- links lead from record i back to record k
pub data Reach (before sent : List ℕ) (k : ℕ) : ℕ → Type 0 where
  itself : {i : ℕ} → i ≡ k → Reach before sent k i
  by_before : {i : ℕ} (j : ℕ) → get_or before i 0 ≡ suc j → Reach before sent k j → Reach before sent k i
  by_sender : {i : ℕ} (j : ℕ) → get_or sent i 0 ≡ suc j → Reach before sent k j → Reach before sent k i

pub reach_on : {before sent : List ℕ} {j i k : ℕ} → Reach before sent k j → Reach before sent j i → Reach before sent k i
reach_on r (itself e) = rw e r
reach_on r (by_before m e s) = by_before m e (reach_on r s)
reach_on r (by_sender m e s) = by_sender m e (reach_on r s)
