-- Loops that count: a test put to each number of a range, and how many pass it.
use Rattle.std.specs.Prelude.{Bool, true, false, not, ◌&&◌, ◌||◌, List, [], ◌∷◌, ◌≡◌, refl, ℕ, zero, suc, ◌+◌, ◌-◌, ◌<◌, ◌≤◌, length}
use Rattle.std.proofs.Common.{sym, ap, ◌∙◌, inl, inr, arith}
use Rattle.lists.specs.{Lists.{allb, keep}, Counting.{counting, counting_next, counting_past}, Tests.{either, eq?}}

-- the test p passes at n numbers from k on
abbrev pub each : (ℕ → Bool) → ℕ → ℕ → Bool
each p n k = allb p (counting n k)

-- the loop has passed k, and stops at e
module _ (p : ℕ → Bool) (e k : ℕ) (a : Bool) (inv : a ≡ each p (e - k) k) where
  step : k < e → a ≡ (p k && each p (e - (k + 1)) (k + 1))
  unfolding allb
  step h = inv ∙ rw (counting_next e k h)

  pub each_hit : k < e → p k ≡ true → a ≡ each p (e - (k + 1)) (k + 1)
  each_hit h q = step h ∙ rw q

  pub each_miss : k < e → p k ≡ false → false ≡ a
  each_miss h q = sym (step h ∙ rw q)

  pub each_end : e ≤ k → true ≡ a
  unfolding allb
  each_end h = sym (inv ∙ rw (counting_past e k h))

-- what `all` over a range finds
module _ (p : ℕ → Bool) where
  pub all_pass : (n k : ℕ) → ((i : ℕ) → k ≤ i → i < n + k → p i ≡ true) → each p n k ≡ true
  unfolding allb counting
  all_pass zero k h = refl
  all_pass (suc n) k h = rw (h k (omega arith) (omega arith)) (all_pass n (suc k) (λ i l r. h i (omega arith) (omega arith)))

  pub one_fails : (n k i : ℕ) → k ≤ i → i < n + k → p i ≡ false → each p n k ≡ false
  unfolding allb counting
  one_fails zero k i l r e = absurd (omega arith)
  one_fails (suc n) k i l r e = elim (eq? i k) [
    | inl q ↦ rw (ap p (sym q) ∙ e)
    | inr d ↦ either (p k) (λ y. rw y (one_fails n (suc k) i (omega arith) (omega arith) e)) (λ y. rw y)
  ]

-- a test of those that are kept
pub allb_keep : {A : Type 0} (p g : A → Bool) (l : List A) → allb p (keep g l) ≡ allb (λ x. not (g x) || p x) l
unfolding allb keep
allb_keep p g [] = refl
allb_keep p g (x ∷ l) = either (g x) (λ e. rw (e, allb_keep p g l)) (λ e. rw (e, allb_keep p g l))

-- how many of n numbers from k on pass the test p
abbrev pub tally : (ℕ → Bool) → ℕ → ℕ → ℕ
tally p n k = length (keep p (counting n k))

pub tally_le : (p : ℕ → Bool) (n k : ℕ) → tally p n k ≤ n
unfolding keep counting
tally_le p zero k = omega arith
tally_le p (suc n) k = let h = tally_le p n (suc k) in either (p k) (λ e. rw e (omega arith)) (λ e. rw e (omega arith))

-- the loop has counted a of those before k, and stops at e; t are all
module _ (p : ℕ → Bool) (e k a t : ℕ) (inv : a + tally p (e - k) k ≡ t) where
  pub tally_hit : k < e → p k ≡ true → a + 1 + tally p (e - (k + 1)) (k + 1) ≡ t
  unfolding keep
  tally_hit h q = let f = rw (counting_next e k h, q) at inv in omega arith

  pub tally_miss : k < e → p k ≡ false → a + tally p (e - (k + 1)) (k + 1) ≡ t
  unfolding keep
  tally_miss h q = rw (counting_next e k h, q) at inv

  pub tally_end : e ≤ k → a ≡ t
  unfolding keep
  tally_end h = let f = rw (counting_past e k h) at inv in omega arith
