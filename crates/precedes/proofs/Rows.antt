-- What the rule on senders says of a good record.
use Rattle.std.specs.Prelude.{◌≡◌, true, List, ◌⊎◌, ℕ, ◌<◌, ◌≤◌, eqb, length, take}
use Rattle.std.proofs.Common.{inl, inr, eqb-true}
use Rattle.lists.specs.{Tests.{either}}
use Rattle.precedes.specs.{declared.Processing.Processing, Precedes.{origin, sender_known, good}}
use Rattle.precedes.specs.Rows.{rec, Is, stands_before, rules}

module _ (row : List Processing) (i : ℕ) (g : good (take i row) (rec row i) ≡ true) where
  pub good_sender : i ≤ length row → (((rec row i).sender ≡ 0) × ((rec row i).sender_tn ≡ 0)) ⊎ ((k : ℕ) × (k < i) × Is row k (origin (rec row i)))
  unfolding sender_known
  good_sender l = either (eqb (rec row i).sender 0)
      (λ e. inl (eqb-true _ _ e, eqb-true _ _ (rw e at (rules row i g).2)))
      (λ e. inr (stands_before (origin (rec row i)) row i l (rw e at (rules row i g).2)))
