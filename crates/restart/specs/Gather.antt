-- A filtered and mapped list, and one of lists joined, as one walk through what they are made from.
use Rattle.std.specs.Prelude.{◌≡◌, refl, Bool, cond, List, [], ◌∷◌, ◌++◌, map, ℕ, ◌+◌, ◌≤◌, ◌<◌, length, drop, get_or}
use Rattle.std.proofs.Common.{sym, ap, ◌∙◌, append_assoc, add-one, drop-cons, drop_of_length-le}
use Rattle.std.proofs.Math.ListN.{get_or-map}
use Rattle.std.proofs.lemmas.List.{length-map}
use Rattle.lists.specs.{Tests.either, Lists.{keep, gather}}

module _ {A B : Type 0} where
  -- an element that passes a test, mapped
  unfoldable pub chosen : (A → Bool) → (A → B) → A → List B
  chosen p f x = cond (p x) (f x ∷ []) []

  pub gather_chosen : (p : A → Bool) (f : A → B) (l : List A) → gather (chosen p f) l ≡ map f (keep p l)
  unfolding gather chosen keep
  gather_chosen p f [] = refl
  gather_chosen p f (x ∷ l) = either (p x) (λ e. rw e (ap (f x ∷◌) (gather_chosen p f l))) (λ e. rw e (gather_chosen p f l))

  pub gather_each : (f : A → B) (l : List A) → gather (λ x. f x ∷ []) l ≡ map f l
  unfolding gather
  gather_each f [] = refl
  gather_each f (x ∷ l) = ap (f x ∷◌) (gather_each f l)

  gather_append : (g : A → List B) (a b : List A) → gather g (a ++ b) ≡ gather g a ++ gather g b
  unfolding gather
  gather_append g [] b = refl
  gather_append g (x ∷ a) b = ap (g x ++◌) (gather_append g a b) ∙ sym (append_assoc (g x) (gather g a) (gather g b))

pub gather_gather : {A B C : Type 0} (g : B → List C) (f : A → List B) (l : List A) → gather (λ q. gather g (f q)) l ≡ gather g (gather f l)
unfolding gather
gather_gather g f [] = refl
gather_gather g f (x ∷ l) = ap (gather g (f x) ++◌) (gather_gather g f l) ∙ sym (gather_append g (f x) (gather f l))

-- going through a list by an index
pub next : {A : Type 0} (l : List A) (i : ℕ) (x d : A) → x ≡ get_or l i d → i < length l → drop i l ≡ x ∷ drop (i + 1) l
next l i x d e h = rw (add-one, drop-cons l i d, e)

-- the same of a row's items, r, of each of which f says what it means
module _ {A : Type 0} (f : ℕ → A) (r l : List ℕ) (s : r ≡ l) (i : ℕ) where
  pub next_item : (x : A) → x ≡ f (get_or r i 0) → i < length r → drop i (map f l) ≡ x ∷ drop (i + 1) (map f l)
  next_item x e h = rw (← s) (next (map f r) i x (f 0) (e ∙ sym (get_or-map f r i 0)) (rw length-map h))

  pub no_item : length r ≤ i → drop i (map f l) ≡ []
  no_item h = rw (← s) (drop_of_length-le (map f r) {i = i} (rw length-map h))
