-- A list that grows step by step, held while it has at most K elements: past that nothing is left, whatever follows.
use Rattle.std.specs.Prelude.{◌≡◌, refl, Bool, true, false, cond, List, [], ◌∷◌, ◌++◌, ℕ, ◌≤◌, leb, length}
use Rattle.std.proofs.Common.{sym, ◌∙◌, arith, le-leb, leb-true, leb-false}
use Rattle.std.proofs.Math.Option.{Option, some, none}
use Rattle.std.proofs.lemmas.Bool.{lt-leb}
use Rattle.lists.specs.{Tests.{either, true_not_false}, Lists.gather}

module _ {A : Type 0} where
  -- the list, where the flag says so
  unfoldable pub held : Bool → List A → Option (List A)
  held b l = cond b (some l) none

  unfoldable pub limit : ℕ → List A → Option (List A)
  limit K l = held (leb (length l) K) l

  -- of two that are equal the flags are equal, and the lists where the flag says so
  pub held_same : (b c : Bool) (l m : List A) → held b l ≡ held c m → (b ≡ c) × (b ≡ true → l ≡ m)
  unfolding held
  held_same true true l m e = (refl, λ _. cc)
  held_same true false l m e = absurd (let z : ◌≡◌ {A = ℕ} 0 1 = cc in omega arith)
  held_same false true l m e = absurd (let z : ◌≡◌ {A = ℕ} 0 1 = cc in omega arith)
  held_same false false l m e = (refl, λ f. true_not_false f refl)

module _ {A B : Type 0} (K : ℕ) (step : List A → B → List A) where
  unfoldable pub one : Option (List A) → B → Option (List A)
  one none b = none
  one (some l) b = limit K (step l b)

  unfoldable pub more : Option (List A) → List B → Option (List A)
  more o [] = o
  more o (b ∷ bs) = more (one o b) bs

  pub more_none : (bs : List B) → more none bs ≡ none
  unfolding more one
  more_none [] = refl
  more_none (b ∷ bs) = more_none bs

  pub more_append : (o : Option (List A)) (a b : List B) → more o (a ++ b) ≡ more (more o a) b
  unfolding more
  more_append o [] b = refl
  more_append o (x ∷ a) b = more_append (one o x) a b

  -- `all` does the same without a limit
  module _ (all : List A → List B → List A) (All-nil : (l : List A) → all l [] ≡ l) (All-cons : (l : List A) (b : B) (bs : List B) → all l (b ∷ bs) ≡ all (step l b) bs)
      (grows : (l : List A) (b : B) → length l ≤ length (step l b)) where
    all_grow : (l : List A) (bs : List B) → length l ≤ length (all l bs)
    all_grow l [] = rw (All-nil l) (omega arith)
    all_grow l (b ∷ bs) = rw (All-cons l b bs) (omega (arith, grows l b, all_grow (step l b) bs))

    -- a list past the limit at some step is past it at the end
    pub more_limit : (l : List A) (bs : List B) → length l ≤ K → more (held true l) bs ≡ limit K (all l bs)
    unfolding more one limit held
    more_limit l [] h = rw (All-nil l, le-leb (length l) K h)
    more_limit l (b ∷ bs) h = rw (All-cons l b bs) (either (leb (length (step l b)) K)
        (λ e. rw e (more_limit (step l b) bs (leb-true (length (step l b)) K e)))
        (λ e. let f = leb-false (length (step l b)) K e in let g = all_grow (step l b) bs in
        rw (e, lt-leb (length (all (step l b) bs)) K (omega arith)) (more_none bs)))

  -- a loop through the elements of `rest`, each of which adds what g says; a is what comes out
  module _ {C : Type 0} (g : C → List B) (a : Option (List A)) (l : List A) (rest : List C) (inv : a ≡ more (held true l) (gather g rest)) where
    pub more_end : rest ≡ [] → held true l ≡ a
    unfolding gather more
    more_end e = sym (inv ∙ rw e)

    module _ (x : C) (left : List C) (e : rest ≡ x ∷ left) where
      pub more_skip : g x ≡ [] → a ≡ more (held true l) (gather g left)
      unfolding gather
      more_skip q = inv ∙ rw (e, q)

      module _ (m : List A) where
        pub more_on : held true m ≡ more (held true l) (g x) → a ≡ more (held true m) (gather g left)
        unfolding gather
        more_on put = inv ∙ rw (e, more_append (held true l) (g x) (gather g left), put)

        pub more_stop : held false m ≡ more (held true l) (g x) → held false m ≡ a
        unfolding gather held
        more_stop put = sym (inv ∙ rw (e, more_append (held true l) (g x) (gather g left), ← put) (more_none (gather g left)))
