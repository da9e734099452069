-- What `a..=b` gives, and a test of all of it.
use Rattle.std.specs.Prelude.{Bool, false, List, [], ◌∷◌, ◌≡◌, refl, ℕ, zero, suc, ◌-◌}
use Rattle.std.specs.Range.{range_inclusive_len, range_inclusive_start, range_inclusive_end, range_inclusive_exhausted}
use Rattle.std.specs.declared.ops.RangeInclusive.{RangeInclusive}
use Rattle.std.specs.Iterator.{AlwaysYields}
use Rattle.std.specs.List.{list_all}
use Rattle.std.proofs.Common.{arith, ◌∙◌}
use Rattle.std.proofs.iter.runs.Sources.{nat_range_inclusive_steps}
use Rattle.std.proofs.lemmas.Iterator.{YieldsList}
use Rattle.lists.specs.{Lists.allb, Counting.counting, Tests.{split}}

-- how many numbers are left
abbrev left : RangeInclusive ℕ → ℕ
left s = range_inclusive_len (λ x y. y - x) (range_inclusive_start s) (range_inclusive_end s) (range_inclusive_exhausted s)

going : (s : RangeInclusive ℕ) (n : ℕ) → left s ≡ suc n → range_inclusive_exhausted s ≡ false
going s n = split (λ b. range_inclusive_len (λ x y. y - x) (range_inclusive_start s) (range_inclusive_end s) b ≡ suc n → b ≡ false) (range_inclusive_exhausted s) (λ e h. absurd (omega arith)) (λ e h. refl)

gives : (n a : ℕ) (s : RangeInclusive ℕ) → left s ≡ n → (range_inclusive_exhausted s ≡ false → range_inclusive_start s ≡ a) → AlwaysYields nat_range_inclusive_steps (λ x. x) s (counting n a)
unfolding counting
gives zero a s e f = λ x j p. absurd (omega (arith, p.1.1))
gives (suc n) a s e f =
    let at = f (going s n e) in (
      (λ j p. absurd (omega (arith, p.1.0))),
      λ x j p. (p.1.0 ∙ at, gives n (suc a) j (omega (arith, p.1.1)) (λ g. omega (arith, p.1.2 g))),
    )

pub from_one : {s : RangeInclusive ℕ} (b : ℕ) → range_inclusive_start s ≡ 1 → range_inclusive_end s ≡ b → range_inclusive_exhausted s ≡ false → YieldsList nat_range_inclusive_steps (λ x. x) s (counting b 1)
from_one {s} b e f g = record { runs = gives b 1 s (rw g (omega arith)) (λ _. e) }

pub all_tested : {A : Type 0} (p : A → Bool) (l : List A) → list_all p l ≡ allb p l
unfolding allb
all_tested p [] = refl
all_tested p (x ∷ l) = rw (all_tested p l)
