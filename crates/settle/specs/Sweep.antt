-- A loop that goes through the indices of a map and changes each value: the map is the new one up to where the loop is.
use Rattle.std.specs.Prelude.{◌≡◌, refl, true, ℕ, ◌+◌, ◌<◌, ◌≤◌}
use Rattle.std.proofs.Common.{sym, ap, ◌∙◌, inl, inr, lt-ltb, le-ltb}
use Rattle.std.proofs.Math.Path.{fun_ext}
use Rattle.lists.specs.{Tests.lt?, Map.upd}
use Rattle.store.specs.Visits.{chosen, visited, visit_hit, visit_all}

module _ {A : Type 0} where
  -- f below k, g from k on
  unfoldable pub front : ℕ → (ℕ → A) → (ℕ → A) → ℕ → A
  front k f g = visited (λ _. true) f g k

  pub above : (k : ℕ) (f g : ℕ → A) (j : ℕ) → k ≤ j → front k f g j ≡ g j
  unfolding front visited
  above k f g j h = rw (le-ltb j k h)

  -- the loop begins at k
  pub front_start : (k : ℕ) (f g : ℕ → A) → ((j : ℕ) → j < k → f j ≡ g j) → g ≡ front k f g
  unfolding front visited chosen
  front_start k f g e = fun_ext (λ j. elim (lt? j k) [ inl h ↦ rw (lt-ltb j k h) (sym (e j h)) | inr h ↦ rw (le-ltb j k h) ])

  module _ (k : ℕ) (f g h : ℕ → A) (inv : h ≡ front k f g) where
    pub front_put : (v : A) → v ≡ f k → upd k v h ≡ front (k + 1) f g
    unfolding front
    front_put v e = ap (upd k v) inv ∙ visit_hit _ f g k refl v e

    -- the loop ends; from n on nothing is changed
    pub front_end : (n : ℕ) → n ≤ k → ((j : ℕ) → n ≤ j → f j ≡ g j) → h ≡ f
    unfolding front chosen
    front_end n r e = inv ∙ visit_all _ f g k n r e
