-- The numbers from k up to e, e itself left out: what a loop that counts has still to go through.
use Rattle.std.specs.Prelude.{◌≡◌, List, [], ◌∷◌, ℕ, suc, ◌+◌, ◌-◌, ◌≤◌, ◌<◌}
use Rattle.std.specs.List.{range_with_len}
use Rattle.std.proofs.Common.{arith}

unfoldable pub range : ℕ → ℕ → List ℕ
range e k = range_with_len k (e - k)

pub range_next : (e k : ℕ) → k < e → range e k ≡ k ∷ range e (k + 1)
unfolding range
range_next e k h = let q : e - k ≡ suc (e - (k + 1)) = omega arith in rw q

pub range_past : (e k : ℕ) → e ≤ k → range e k ≡ []
unfolding range
range_past e k h = let q : e - k ≡ 0 = omega arith in rw q
