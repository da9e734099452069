-- New tickets, holes and targets: which TNs a table has.
use Rattle.std.specs.Prelude.{◌≡◌, true, false, ◌≢◌, List, [], ◌∷◌, ℕ, zero, suc, ◌+◌, ◌-◌, ◌≤◌, ◌<◌}
use Rattle.std.proofs.Math.Path.{refl}
use Rattle.std.proofs.Common.{ap, subst, eqb-true}
use Rattle.std.proofs.Math.Logic.{inl, inr}
use mathlib.Core.List.Memᴰ.{head as here}
use mathlib.Core.List.Memᴰ.{tail as there}
use Rattle.std.proofs.Math.Option.{Option, some, none}
use native.Mathlib.Omega.{arith}
use Rattle.std.proofs.lemmas.Bool.{eqb-false}
use Rattle.lists.specs.Tests.{either, eq?, lt?}
use Rattle.lists.specs.Lists.{◌∈◌, anyb, anyb_true, anyb_false}
use Rattle.protocol.specs.declared.Entry.{Entry}
use Rattle.protocol.specs.Parts.{Memory}
use Rattle.protocol.specs.Tickets.{has_tn, highest, first_free, lowest_hole, hole_or, next_tn, new_tn}
use Rattle.protocol.specs.Restart.{below_hole, target_of}

-- some entry of the table has TN t; none has
abbrev pub HasTn : List Entry → ℕ → Type 0
HasTn l t = (e : Entry) × (e ∈ l) × (e.tn ≡ t)

abbrev pub NotEntered : List Entry → ℕ → Type 0
NotEntered l t = (e : Entry) → e ∈ l → e.tn ≢ t

-- ---- the highest: the largest of the height and the TNs
pub height_highest : (h : ℕ) (l : List Entry) → h ≤ highest h l
unfolding highest
height_highest h [] = omega arith
height_highest h (e ∷ l) = let q = height_highest h l in omega arith

pub highest_above : {e : Entry} {l : List Entry} (h : ℕ) → e ∈ l → e.tn ≤ highest h l
unfolding highest
highest_above h (here {x = x} {xs = l} q) = let r = ap (λ (y : Entry). y.tn) q in omega arith
highest_above h (there {x = x} {xs = l} i) = let r = highest_above h i in omega arith

-- ---- the first number that no entry has
pub record Free (k t : ℕ) (l : List Entry) (u : ℕ) : Type 0 where
  pub from : t ≤ u
  pub below : u < t + k
  pub free : NotEntered l u
  pub taken : (v : ℕ) → t ≤ v → v < u → HasTn l v

tn_entered : (t : ℕ) (l : List Entry) → anyb (has_tn t) l ≡ true → HasTn l t
unfolding has_tn
tn_entered t l e = let (x, i, p) = anyb_true (has_tn t) l e in (x, i, eqb-true _ _ p)

tn_not_entered : (t : ℕ) (l : List Entry) → anyb (has_tn t) l ≡ false → NotEntered l t
unfolding has_tn
tn_not_entered t l e x i = eqb-false _ _ (anyb_false (has_tn t) l e x i)

-- what holds at t and at all above it holds from t on
from_first : (P : ℕ → Type 0) (t : ℕ) → P t → (v : ℕ) → t ≤ v → (t < v → P v) → P v
from_first P t p v h q = elim (eq? t v) [ inl e ↦ subst P e p | inr d ↦ q (omega arith) ]

pub first_free_some : (k t : ℕ) (l : List Entry) {u : ℕ} → first_free k t l ≡ some u → Free k t l u
unfolding first_free
first_free_some zero t l e = absurd (let z : ◌≡◌ {A = ℕ} 0 1 = cc in omega arith)
first_free_some (suc k) t l {u} e = either (anyb (has_tn t) l)
    (λ f.
    let r = first_free_some k (suc t) l {u = u} (rw f at e) in
    record {
      from = let a = r.from in omega arith;
      below = let a = r.below in omega arith;
      free = r.free;
      taken = λ v a b. from_first (HasTn l) t (tn_entered t l f) v a (λ c. r.taken v c b);
    })
    (λ f.
    let q : t ≡ u = cc (rw f at e) in
    record {
      from = omega arith;
      below = omega arith;
      free = subst (NotEntered l) q (tn_not_entered t l f);
      taken = λ v a b. absurd (omega arith);
    })

pub first_free_none : (k t : ℕ) (l : List Entry) → first_free k t l ≡ none → (v : ℕ) → t ≤ v → v < t + k → HasTn l v
unfolding first_free
first_free_none zero t l e v a b = absurd (omega arith)
first_free_none (suc k) t l e v a b = either (anyb (has_tn t) l)
    (λ f. from_first (HasTn l) t (tn_entered t l f) v a (λ c. first_free_none k (suc t) l (rw f at e) v c (omega arith)))
    (λ f. absurd (let g = rw f at e in let z : ◌≡◌ {A = ℕ} 0 1 = cc in omega arith))

-- ---- the lowest hole
pub record Hole (h top : ℕ) (l : List Entry) (u : ℕ) : Type 0 where
  pub above : h < u
  pub below : u < top
  pub free : NotEntered l u
  pub taken : (v : ℕ) → h < v → v < u → HasTn l v

pub hole_some : (h top : ℕ) (l : List Entry) {u : ℕ} → lowest_hole h top l ≡ some u → Hole h top l u
unfolding lowest_hole
hole_some h top l e =
    let r = first_free_some (top - h - 1) (h + 1) l e in
    record {
      above = let a = r.from in omega arith;
      below = let a = r.from in let b = r.below in omega arith;
      free = r.free;
      taken = λ v a b. r.taken v (omega arith) b;
    }

pub hole_none : (h top : ℕ) (l : List Entry) → lowest_hole h top l ≡ none → (v : ℕ) → h < v → v < top → HasTn l v
unfolding lowest_hole
hole_none h top l e v a b = first_free_none (top - h - 1) (h + 1) l e v (omega arith) (omega arith)

-- ---- new tickets are above the height and no entry has them
module _ (m : Memory) where
  pub new_tn_above : m.height < new_tn m
  unfolding new_tn next_tn hole_or
  new_tn_above = go (lowest_hole m.height m.highest_at_restart m.table) refl
    where
      go : (o : Option ℕ) → lowest_hole m.height m.highest_at_restart m.table ≡ o → m.height < hole_or o (highest m.height m.table + 1)
      go none e = let a = height_highest m.height m.table in omega arith
      go (some t) e = (hole_some _ _ _ e).above

  pub new_tn_free : (e : Entry) → e ∈ m.table → e.tn ≢ new_tn m
  unfolding new_tn next_tn hole_or
  new_tn_free = go (lowest_hole m.height m.highest_at_restart m.table) refl
    where
      go : (o : Option ℕ) → lowest_hole m.height m.highest_at_restart m.table ≡ o → NotEntered m.table (hole_or o (highest m.height m.table + 1))
      go none e = λ x i q. let a = highest_above m.height i in omega arith
      go (some t) e = (hole_some _ _ _ e).free

  -- ---- the target of a restart
  pub target_above : m.height ≤ target_of m
  unfolding target_of below_hole
  target_above = go (lowest_hole m.height m.highest_at_restart m.table) refl
    where
      go : (o : Option ℕ) → lowest_hole m.height m.highest_at_restart m.table ≡ o → m.height ≤ below_hole o (highest m.height m.table)
      go none e = height_highest _ _
      go (some t) e = let a = (hole_some _ _ _ e).above in omega arith

  -- a table without holes up to v reaches v
  pub target_reaches : (v : ℕ) → ((t : ℕ) → m.height < t → t ≤ v → HasTn m.table t) → v ≤ target_of m
  unfolding target_of below_hole
  target_reaches v has = elim (lt? m.height v) [
    | inl a ↦ go a (lowest_hole m.height m.highest_at_restart m.table) refl
    | inr a ↦ let b = target_above in omega arith
  ]
    where
      go : m.height < v → (o : Option ℕ) → lowest_hole m.height m.highest_at_restart m.table ≡ o → v ≤ below_hole o (highest m.height m.table)
      go a none e = let (x, i, q) = has v a (omega arith) in let b = highest_above m.height i in omega arith
      go a (some t) e =
          let r = hole_some _ _ _ e in
          let f = r.above in
          elim (lt? v t) [ inl b ↦ omega arith | inr b ↦ let (x, i, q) = has t f b in absurd (r.free x i q) ]
