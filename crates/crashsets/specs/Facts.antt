-- The words for what readers of the counts may expect of them; proofs/Facts has the theorems.
use Rattle.std.specs.Prelude.{Bool, cond, List, [], ◌∷◌, ℕ, zero, suc, ◌+◌}
use Rattle.lists.specs.{Lists.{keep}}
use Rattle.crashsets.specs.{CrashSets.{sets, has_size}}

-- every choice of machines as a set
unfoldable pub chosen : ℕ → (ℕ → Bool) → List ℕ
chosen zero c = []
chosen (suc m) c = cond (c (suc m)) (suc m ∷ chosen m c) (chosen m c)

-- Pascal's numbers
unfoldable pub choose : ℕ → ℕ → ℕ
choose n zero = 1
choose zero (suc k) = 0
choose (suc n) (suc k) = choose n (suc k) + choose n k

-- the sets of f machines among m
abbrev pub of_size : ℕ → ℕ → List (List ℕ)
of_size f m = keep (has_size f) (sets m)
