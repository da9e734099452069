-- Reading a row record by record: where each name stands, and the links of each record.
use Rattle.std.specs.Prelude.{Option, None, Some, is_some, IfSome, unwrap_or, ◌≡◌, Bool, true, false, cond, ◌&&◌, ◌||◌, not, List, ℕ, ◌+◌, ◌-◌, ◌*◌, ◌<◌, ◌≤◌, eqb, leb, length, take, get_or, set}
use Rattle.std.proofs.Common.{inl, inr, arith, eq-eqb, ne_eqb, leb-true, le-leb, get_or-set_same, get_or-set_other}
use Rattle.lists.specs.Tests.{either, and_l, and_r, and_i}
use Rattle.precedes.specs.{declared.Processing.Processing, Precedes.{Name, name, stands, in_range}}
use Rattle.precedes.specs.Rows.{stands_before, before_stands}
use Rattle.precedes.specs.{Chains.{Place}}

-- the table of places has a slot for each of the TNs 1 to 512 of the chares 1 to 12
abbrev pub SLOTS : ℕ
SLOTS = 6144

unfoldable pub tabled : Name → Bool
tabled n = leb 1 n.0 && leb n.0 12 && leb 1 n.1 && leb n.1 512

abbrev pub slot : Name → ℕ
slot n = (n.0 - 1) * 512 + (n.1 - 1)

-- the place of a name as a table has it
unfoldable pub found : List ℕ → Name → ℕ
found at n = cond (tabled n) (get_or at (slot n) 0) 0

-- the table has the places of the first i records
abbrev pub Knows : List Processing → ℕ → List ℕ → Type 0
Knows row i at = (n : Name) → Place row i n (found at n)

in_table : (n : Name) → tabled n ≡ true → (1 ≤ n.0) × (n.0 ≤ 12) × (1 ≤ n.1) × (n.1 ≤ 512)
unfolding tabled
in_table n e =
    let a = and_l _ _ e in let b = and_l _ _ a in
    (leb-true _ _ (and_l _ _ b), leb-true _ _ (and_r (leb 1 n.0) _ b), leb-true _ _ (and_r (leb 1 n.0 && leb n.0 12) _ a), leb-true _ _ (and_r (leb 1 n.0 && leb n.0 12 && leb 1 n.1) _ e))

pub in_slots : (p : Processing) → tabled (name p) ≡ true → (1 ≤ p.chare) × (p.chare ≤ 12) × (1 ≤ p.tn) × (p.tn ≤ 512)
unfolding name
in_slots p e = in_table (name p) e

pub table_in : (n : Name) → 1 ≤ n.0 → n.0 ≤ 12 → 1 ≤ n.1 → n.1 ≤ 512 → tabled n ≡ true
unfolding tabled
table_in n a b c d = and_i _ _ (and_i _ _ (and_i _ _ (le-leb _ _ a) (le-leb _ _ b)) (le-leb _ _ c)) (le-leb _ _ d)

pub found_in : (at : List ℕ) (n : Name) → 1 ≤ n.0 → n.0 ≤ 12 → 1 ≤ n.1 → n.1 ≤ 512 → get_or at (slot n) 0 ≡ found at n
unfolding found
found_in at n a b c d = rw (table_in n a b c d)

pub found_out : (at : List ℕ) (n : Name) → ((1 ≤ n.0) × (n.0 ≤ 12) × (1 ≤ n.1) × (n.1 ≤ 512) → ⊥) → 0 ≡ found at n
unfolding found
found_out at n h = either (tabled n) (λ e. absurd (h (in_table n e))) (λ e. rw e)

-- one slot is written
module _ (at : List ℕ) (m : Name) (v : ℕ) (long : length at ≡ SLOTS) (t : tabled m ≡ true) where
  slot_low : slot m < length at
  slot_low = let r = in_table m t in omega (arith, long, r.0, r.1, r.2, r.3)

  pub found_new : found (set at (slot m) v) m ≡ v
  unfolding found
  found_new = rw t (get_or-set_same at (slot m) v 0 slot_low)

  apart : (n : Name) → tabled n ≡ true → ((n.0 ≡ m.0) × (n.1 ≡ m.1) → ⊥) → slot n ≡ slot m → ⊥
  apart n e d s =
      let r = in_table m t in let q = in_table n e in
      let c : n.0 ≡ m.0 = omega (arith, s, r.0, r.1, r.2, r.3, q.0, q.1, q.2, q.3) in
      d (c, omega (arith, s, c, r.0, r.1, r.2, r.3, q.0, q.1, q.2, q.3))

  pub found_old : (n : Name) → ((n.0 ≡ m.0) × (n.1 ≡ m.1) → ⊥) → found (set at (slot m) v) n ≡ found at n
  unfolding found
  found_old n d = either (tabled n) (λ e. rw e (get_or-set_other at (slot m) (slot n) v 0 (apart n e d))) (λ e. rw e)

-- ---- what the table answers
pub known_stands : (row : List Processing) (i : ℕ) (at : List ℕ) (n : Name) → i ≤ length row → Knows row i at → not (eqb (found at n) 0) ≡ stands n (take i row)
known_stands row i at n l k = elim (k n) [
  | inl z ↦ either (stands n (take i row))
      (λ e. let r = stands_before n row i l e in absurd (z.1 r.0 r.1 r.2))
      (λ e. rw (e, eq-eqb (found at n) 0 z.0))
  | inr p ↦ rw (before_stands n row i p.0 l p.1 p.3, ne_eqb (found at n) 0 (λ z. omega (arith, z, p.2)))
]

-- what the table answers, 0 as nothing: whether the name was found
pub is_found : (r : Option ℕ) {v : ℕ} → unwrap_or r 0 ≡ v → IfSome r (λ place. 0 < place) → is_some r ≡ not (eqb v 0)
is_found None e h = rw (← e)
is_found (Some p) {v} e h = rw (ne_eqb v 0 (λ z. omega (arith, e, z, h)))

pub not_found : (r : Option ℕ) {v : ℕ} → unwrap_or r 0 ≡ v → IfSome r (λ place. 0 < place) → eqb v 0 ≡ not (is_some r)
not_found None e h = rw (← e)
not_found (Some p) {v} e h = ne_eqb v 0 (λ z. omega (arith, e, z, h))

-- a TN is next where it does not stand itself, and the one below it does, or it is 1
unfoldable pub next_by : List ℕ → ℕ → ℕ → Bool
next_by at c t = leb 1 t && eqb (found at (c, t)) 0 && (eqb t 1 || not (eqb (found at (c, t - 1)) 0))

-- the desk, or a record that stands, sent the message
unfoldable pub sent_by : List ℕ → ℕ → ℕ → Bool
sent_by at s t = cond (eqb s 0) (eqb t 0) (not (eqb (found at (s, t)) 0))

-- the record may stand behind those that the table knows
unfoldable pub admits : List ℕ → Processing → Bool
admits at p = in_range p && sent_by at p.sender p.sender_tn && next_by at p.chare p.tn

pub ranged : (p : Processing) → 1 ≤ p.chare → p.chare ≤ 12 → p.sender ≤ 12 → in_range p ≡ true
unfolding in_range
ranged p a b c = and_i _ _ (and_i _ _ (le-leb _ _ a) (le-leb _ _ b)) (le-leb _ _ c)

pub not_ranged : (p : Processing) → ((1 ≤ p.chare) × (p.chare ≤ 12) × (p.sender ≤ 12) → ⊥) → in_range p ≡ false
unfolding in_range
not_ranged p h = either (in_range p)
    (λ e. let a = and_l _ _ e in absurd (h (leb-true _ _ (and_l _ _ a), leb-true _ _ (and_r (leb 1 p.chare) _ a), leb-true _ _ (and_r (leb 1 p.chare && leb p.chare 12) _ e))))
    (λ e. e)
