-- Laws on any lists, beside those of the crate lists: elements changed or removed by a key, which is a pair of numbers; filters of joined lists.
use Rattle.std.specs.Prelude.{◌≡◌, Bool, true, false, ◌&&◌, ◌≢◌, ◌⊎◌, ℕ, eqb}
use Rattle.std.proofs.Math.Path.{refl, ap, sym}
use Rattle.std.proofs.Common.{◌∙◌, eqb-true, eq-eqb}
use Rattle.std.proofs.Math.Logic.{inl, inr}
use mathlib.Core.List.Memᴰ
use mathlib.Core.List.Memᴰ.{head as here}
use mathlib.Core.List.Memᴰ.{tail as there}
use mathlib.Core.List.{List, [], ◌∷◌, ◌++◌}
use Rattle.lists.specs.Tests.{either, true_not_false, and_l, and_r, and_i}
use Rattle.lists.specs.Lists.{◌∈◌, All, all_nil, keep, keep_append, keep_none, gather, find_the, remove1, mem_remove1, change1, change1_mem, mem_change1, change1_found}
use Rattle.lists.specs.Keys.{NoDup, uniq}

abbrev pub Key : Type 0
Key = ℕ × ℕ

pub pair_eq : {a b c d : ℕ} → a ≡ b → c ≡ d → ◌≡◌ {A = Key} (a, c) (b, d)
pair_eq p q i = (p i, q i)

-- the test that two numbers are those of a key
module _ (a b c d : ℕ) where
  pub pair_true : (eqb a c && eqb b d) ≡ true → ◌≡◌ {A = Key} (a, b) (c, d)
  pair_true e = pair_eq (eqb-true a c (and_l _ _ e)) (eqb-true b d (and_r (eqb a c) _ e))

  pub true_pair : ◌≡◌ {A = Key} (a, b) (c, d) → (eqb a c && eqb b d) ≡ true
  true_pair e = and_i _ _ (eq-eqb a c (ap (λ (k : Key). k.0) e)) (eq-eqb b d (ap (λ (k : Key). k.1) e))

-- a test that an element has the key k
pub record Tests {A : Type 0} (key : A → Key) (k : Key) (p : A → Bool) : Type 0 where
  pub yes_key : (x : A) → p x ≡ true → key x ≡ k
  pub key_yes : (x : A) → key x ≡ k → p x ≡ true

module _ {A : Type 0} {key : A → Key} {k : Key} {p : A → Bool} (t : Tests key k p) where
  pub no_key : (x : A) → p x ≡ false → key x ≢ k
  no_key x e q = true_not_false (t.key_yes x q) e

  pub key_no : (x : A) → key x ≢ k → p x ≡ false
  key_no x d = either (p x) (λ e. absurd (d (t.yes_key x e))) (λ e. e)

-- what the list with one of key k changed by f has: an old element of another key, or the changed form of the old one of that key
pub data Changed {A : Type 0} (key : A → Key) (k : Key) (f : A → A) (l : List A) (y : A) : Type 0 where
  kept : y ∈ l → key y ≢ k → Changed key k f l y
  changed : (x : A) → x ∈ l → key x ≡ k → y ≡ f x → Changed key k f l y

module _ {A : Type 0} {key : A → Key} {k : Key} {p : A → Bool} (t : Tests key k p) (f : A → A) where
  -- of any list: an old element, perhaps of that key (a later double), or a changed one
  pub change_old : {y : A} (l : List A) → y ∈ change1 p f l → (y ∈ l) ⊎ ((x : A) × (x ∈ l) × (key x ≡ k) × (y ≡ f x))
  change_old l i = elim (change1_mem p f l i) [ inl j ↦ inl j | inr (x, j, e, q) ↦ inr (x, j, t.yes_key x e, q) ]

  pub change_other : {x : A} {l : List A} → x ∈ l → key x ≢ k → x ∈ change1 p f l
  change_other {x} i d = mem_change1 p f i (key_no t x d)

  -- of a list without two of one key
  pub change_mem : {y : A} (l : List A) → NoDup key l → y ∈ change1 p f l → Changed key k f l y
  unfolding change1 NoDup
  change_mem [] h i = absurd (Memᴰ.not-nil i)
  change_mem {y} (x ∷ l) h i = either (p x)
      (λ e. elim (Memᴰ.cases_cons (rw e at i)) [
        | inl q ↦ changed x (here refl) (t.yes_key x e) q
        | inr j ↦ kept (there j) (λ q. h.0 y j (q ∙ sym (t.yes_key x e)))
      ])
      (λ e. elim (Memᴰ.cases_cons (rw e at i)) [
        | inl q ↦ kept (here q) (no_key t y (ap p q ∙ e))
        | inr j ↦ elim (change_mem l h.1 j) [ kept a d ↦ kept (there a) d | changed z a c q ↦ changed z (there a) c q ]
      ])

  pub mem_change : {x : A} {l : List A} → NoDup key l → x ∈ l → key x ≡ k → f x ∈ change1 p f l
  mem_change {x} {l} h i e = change1_found p f l (find_the p l i (t.key_yes x e) (λ y j g. uniq key h j i (t.yes_key y g ∙ sym e)))

-- the list without its one of key k
module _ {A : Type 0} {key : A → Key} {k : Key} {p : A → Bool} (t : Tests key k p) where
  pub mem_remove : {x : A} {l : List A} → x ∈ l → key x ≢ k → x ∈ remove1 p l
  mem_remove {x} i d = mem_remove1 p i (key_no t x d)

  -- of a list without two of one key
  pub remove_key : {x : A} (l : List A) → NoDup key l → x ∈ remove1 p l → key x ≢ k
  unfolding remove1 NoDup
  remove_key [] h i = absurd (Memᴰ.not-nil i)
  remove_key {x} (y ∷ l) h i = either (p y)
      (λ e q. h.0 x (rw e at i) (q ∙ sym (t.yes_key y e)))
      (λ e. elim (Memᴰ.cases_cons (rw e at i)) [ inl q ↦ no_key t x (ap p q ∙ e) | inr j ↦ remove_key l h.1 j ])

-- every old element stays, perhaps changed
pub mem_change1_either : {A : Type 0} (p : A → Bool) (f : A → A) {a : A} {l : List A} → a ∈ l → (a ∈ change1 p f l) ⊎ (f a ∈ change1 p f l)
unfolding change1
mem_change1_either p f (here {x = x} q) = either (p x) (λ e. rw e (inr (here (ap f q)))) (λ e. rw e (inl (here q)))
mem_change1_either p f (there {x = x} i) = either (p x)
    (λ e. rw e (inl (there i)))
    (λ e. rw e (elim (mem_change1_either p f i) [ inl j ↦ inl (there j) | inr j ↦ inr (there j) ]))

-- ---- a filter of joined lists is the filtered lists joined
module _ {A B : Type 0} where
  pub keep_gather : (p : B → Bool) (f : A → List B) (l : List A) → keep p (gather f l) ≡ gather (λ a. keep p (f a)) l
  unfolding gather
  keep_gather p f [] = keep_none p [] (all_nil _)
  keep_gather p f (a ∷ l) = keep_append p (f a) (gather f l) ∙ ap (keep p (f a) ++◌) (keep_gather p f l)

  pub gather_ext : (f g : A → List B) (l : List A) → All (λ a. f a ≡ g a) l → gather f l ≡ gather g l
  unfolding gather
  gather_ext f g [] h = refl
  gather_ext f g (a ∷ l) h = rw (h a (here refl), gather_ext f g l (λ b i. h b (there i)))
