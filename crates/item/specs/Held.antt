-- What a row of words holds, one thing a word: f says what a word means.
use Rattle.std.specs.Prelude.{◌≡◌, Bool, false, List, [], ◌∷◌, map, ℕ, ◌-◌, ◌≤◌, length, drop}
use Rattle.std.proofs.Common.{◌∙◌, arith, drop_of_length-le}
use Rattle.std.proofs.lemmas.List.{length-map}
use Rattle.arrays.specs.{Front.push, Place.place}
use Rattle.words.specs.{Rows.{row, row_length}, Becomes.{Becomes, becomes_mapped}, Mapped.map_push}

module _ {A : Type 0} (f : ℕ → A) (ws : List ℕ) where
  pub held_fit : length (map f (row ws)) ≤ length ws - 1
  held_fit = omega (arith, length-map (row ws) f, row_length ws)

  pub held_push : (out : List ℕ) (y : A) (x : ℕ) → Becomes row ws out (push (length ws - 1) (row ws) x) → f x ≡ y → Becomes (λ w. map f (row w)) ws out (push (length ws - 1) (map f (row ws)) y)
  held_push out y x a b = becomes_mapped f a (map_push f _ (row ws) x ∙ rw b)

  -- past the last
  pub held_end : (i : ℕ) → length (row ws) ≤ i → drop i (map f (row ws)) ≡ []
  held_end i h = drop_of_length-le (map f (row ws)) {i = i} (rw length-map h)

-- no word means what passes
pub held_never : {A : Type 0} (f : ℕ → A) (q : A → Bool) → ((w : ℕ) → q (f w) ≡ false) → (l : List ℕ) → length (map f l) ≤ place q (map f l)
unfolding place
held_never f q none-does [] = omega arith
held_never f q none-does (w ∷ l) = rw (none-does w) (omega (arith, held_never f q none-does l))
