-- What the library's `position` finds is the place.
use Rattle.std.specs.Prelude.{◌≡◌, refl, Bool, cond, List, ℕ, suc, ◌+◌, ltb, length, Option, Some, None, unwrap_or}
use Rattle.std.specs.List.{position_or_len}
use Rattle.std.proofs.Common.{arith, ltb-false}
use Rattle.std.proofs.lemmas.List.Recursion.{is_position_or_len}
use Rattle.lists.specs.Tests.{either}
use Rattle.arrays.specs.Place.{place, place_le}

module _ {A : Type 0} (p : A → Bool) (l : List A) where
  place_is : place p l ≡ position_or_len p l
  unfolding place
  place_is = is_position_or_len (place p) p refl (λ x k. let e : 1 + place p k ≡ suc (place p k) = omega arith in rw e) l

  pub position_place : {r : Option ℕ} → r ≡ cond (ltb (position_or_len p l) (length l)) (Some (position_or_len p l)) None → unwrap_or r (length l) ≡ place p l
  position_place {r} e = rw (e, ← place_is)
      (either (ltb (place p l) (length l)) (λ h. rw h) (λ h. rw h (let g = ltb-false _ _ h in omega (arith, place_le p l))))
