-- Numbers in a row.
use mathlib.Core.List.Memᴰ
use mathlib.Core.List.Memᴰ.{head as here}
use mathlib.Core.List.Memᴰ.{tail as there}
use Rattle.std.specs.Prelude.{List, [], ◌∷◌, ◌≡◌, ℕ, zero, suc, ◌+◌, ◌-◌, ◌≤◌, ◌<◌}
use Rattle.std.proofs.Common.{inl, inr, arith, add-one}
use Rattle.lists.specs.Tests.{eq?}
use Rattle.lists.specs.Lists.{◌∈◌}

-- n numbers from k on
unfoldable pub counting : ℕ → ℕ → List ℕ
counting zero k = []
counting (suc n) k = k ∷ counting n (suc k)

pub mem_counting : (n k x : ℕ) → k ≤ x → x < n + k → x ∈ counting n k
unfolding counting
mem_counting zero k x p q = absurd (omega arith)
mem_counting (suc n) k x p q = elim (eq? x k) [
  | inl e ↦ here e
  | inr d ↦ there (mem_counting n (suc k) x (omega arith) (omega arith))
]

pub counting_mem : (n k : ℕ) {x : ℕ} → x ∈ counting n k → k ≤ x
unfolding counting
counting_mem zero k i = absurd (Memᴰ.not-nil i)
counting_mem (suc n) k i = elim (Memᴰ.cases_cons i) [
  | inl e ↦ omega arith
  | inr j ↦ let h = counting_mem n (suc k) j in omega arith
]

-- a loop that is at k and goes up to e, e itself left out
pub counting_next : (e k : ℕ) → k < e → counting (e - k) k ≡ k ∷ counting (e - (k + 1)) (k + 1)
unfolding counting
counting_next e k h = let q : e - k ≡ suc (e - (k + 1)) = omega arith in rw (q, add-one k)

pub counting_past : (e k : ℕ) → e ≤ k → counting (e - k) k ≡ []
unfolding counting
counting_past e k h = let q : e - k ≡ 0 = omega arith in rw q
