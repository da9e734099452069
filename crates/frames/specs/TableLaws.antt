-- The table of least lengths, checked entry by entry.
use Rattle.std.specs.Prelude.{Bool, true, ◌&&◌, ◌||◌, ◌≡◌, refl, ℕ, zero, suc, ◌<◌, ◌≤◌, eqb, leb, ltb}
use Rattle.std.proofs.Common.{⊎_elim, arith, leb-true, ltb-true, eqb-true, ne_eqb}
use Rattle.lists.specs.Tests.{eq?, and_l, and_r}
use Rattle.protocol.specs.Frames.{least, least_length}
use Rattle.frames.specs.Read.{Sized}

below : (ℕ → Bool) → ℕ → Bool
below p zero = true
below p (suc n) = p n && below p n

below_at : (p : ℕ → Bool) (n k : ℕ) → below p n ≡ true → k < n → p k ≡ true
unfolding below
below_at p zero k e h = absurd (omega arith)
below_at p (suc n) k e h = ⊎_elim (λ (i : k ≡ n). rw i (and_l (p n) (below p n) e)) (λ i. below_at p n k (and_r (p n) (below p n) e) (omega arith)) (eq? k n)

single_entry : ℕ → Bool
single_entry k = eqb k 1 || eqb k 16 || eqb k 17 || eqb (least_length k) 0 || (ltb 17 k && eqb (least_length k) 2)

all_entries : below single_entry 24 ≡ true
unfolding below single_entry least_length least
all_entries = refl

pub least_small : (k m : ℕ) → k ≤ 23 → m ≡ least_length k → m ≤ 6
unfolding below least_length least
least_small k m h e = rw e (leb-true (least_length k) 6 (below_at (λ k. leb (least_length k) 6) 24 k refl (omega arith)))

-- the kinds but 01, 10 and 11
module _ (n k : ℕ) (z : Sized n k) (b : k ≡ 16 → ⊥) (c : k ≡ 17 → ⊥) where
  single : (ltb 17 k && eqb (least_length k) 2) ≡ true
  unfolding single_entry
  single =
      let some : least_length k ≡ 0 → ⊥ = λ e. omega arith in
      rw (ne_eqb k 1 z.other, ne_eqb k 16 b, ne_eqb k 17 c, ne_eqb (least_length k) 0 some) at (below_at single_entry 24 k all_entries (omega arith))

  pub single_line : (n ≡ 4) × (17 < k)
  single_line =
      let two = eqb-true (least_length k) 2 (and_r (ltb 17 k) (eqb (least_length k) 2) single) in
      (omega arith, ltb-true 17 k (and_l (ltb 17 k) (eqb (least_length k) 2) single))
