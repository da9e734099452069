-- Words that are all 0.
use Rattle.std.specs.Prelude.{◌≡◌, refl, List, ◌∷◌, ℕ, suc, zero, ◌+◌, ◌-◌, ◌≤◌, take, drop, get_or, replicate}
use Rattle.std.proofs.Common.{ap, arith}
use Rattle.words.specs.Part.{part}

abbrev pub zeros : ℕ → List ℕ
zeros n = replicate n 0

pub zero_at : (n i : ℕ) → get_or (zeros n) i 0 ≡ 0
zero_at zero i = refl
zero_at (suc n) zero = refl
zero_at (suc n) (suc i) = zero_at n i

take_zeros : (n k : ℕ) → k ≤ n → take k (zeros n) ≡ zeros k
take_zeros n zero h = refl
take_zeros zero (suc k) h = absurd (omega arith)
take_zeros (suc n) (suc k) h = ap (0 ∷◌) (take_zeros n k (omega arith))

drop_zeros : (n a : ℕ) → drop a (zeros n) ≡ zeros (n - a)
drop_zeros n zero = let e : n - 0 ≡ n = omega arith in rw e
drop_zeros zero (suc a) = let e : 0 - suc a ≡ 0 = omega arith in rw e
drop_zeros (suc n) (suc a) = let e : suc n - suc a ≡ n - a = omega arith in rw e (drop_zeros n a)

pub part_zeros : (n a k : ℕ) → a + k ≤ n → part a k (zeros n) ≡ zeros k
part_zeros n a k h = rw (drop_zeros n a) (take_zeros (n - a) k (omega arith))
