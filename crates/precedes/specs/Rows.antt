-- What the rules give where the first n records of a row are good: a chare's processings stand in the order of their TNs, each once.
use Rattle.std.specs.Prelude.{◌≡◌, refl, true, cond, List, [], ◌∷◌, ℕ, zero, suc, ◌+◌, ◌<◌, ◌≤◌, eqb, leb, length, take, get_or}
use Rattle.std.proofs.Common.{sym, ◌∙◌, inl, inr, arith, eqb-true, eq-eqb, ne_eqb, leb-true, ltb-true, take-suc, get_or-take, length-take-le, length-append}
use Rattle.lists.specs.{Tests.{either, eq?, lt?, and_l, and_r, and_i, and4, or_cases, or_l, or_r, true_not_false}, Lists.{anyb, keep, keep_append}}
use Rattle.precedes.specs.{declared.Processing.Processing, Precedes.{Name, named, stands, count, in_range, sender_known, tn_next, has_room, good}}

-- no processing: what stands past the end
abbrev pub nobody : Processing
nobody = record { chare = 0; tn = 0; sender = 0; sender_tn = 0 }

-- record i, counted from 0
abbrev pub rec : List Processing → ℕ → Processing
rec row i = get_or row i nobody

-- record i has this name
abbrev pub Is : List Processing → ℕ → Name → Type 0
Is row i n = ((rec row i).chare ≡ n.0) × ((rec row i).tn ≡ n.1)

-- the first n records are good
abbrev pub Good : List Processing → ℕ → Type 0
Good row n = (n ≤ length row) × ((i : ℕ) → i < n → good (take i row) (rec row i) ≡ true)

-- ---- a name stands in a row where some record has it
pub named_is : (n : Name) (p : Processing) → named n p ≡ true → (p.chare ≡ n.0) × (p.tn ≡ n.1)
unfolding named
named_is n p e = (eqb-true _ _ (and_l _ _ e), eqb-true _ _ (and_r (eqb p.chare n.0) _ e))

pub is_named : (n : Name) (p : Processing) → p.chare ≡ n.0 → p.tn ≡ n.1 → named n p ≡ true
unfolding named
is_named n p c t = and_i _ _ (eq-eqb _ _ c) (eq-eqb _ _ t)

pub stands_at : (n : Name) (row : List Processing) → stands n row ≡ true → (i : ℕ) × (i < length row) × Is row i n
unfolding stands anyb
stands_at n [] e = true_not_false e refl
stands_at n (p ∷ row) e = elim (or_cases (named n p) (anyb (named n) row) e) [
  | inl f ↦ (0, omega arith, named_is n p f)
  | inr f ↦ let r = stands_at n row f in (suc r.0, omega (arith, r.1), r.2)
]

pub at_stands : (n : Name) (row : List Processing) (i : ℕ) → i < length row → Is row i n → stands n row ≡ true
unfolding stands anyb
at_stands n [] i l h = absurd (omega arith)
at_stands n (p ∷ row) zero l h = or_l _ _ (is_named n p h.0 h.1)
at_stands n (p ∷ row) (suc i) l h = or_r (named n p) _ (at_stands n row i (omega arith) h)

is_take : (row : List Processing) (k i : ℕ) (n : Name) → i < k → Is (take k row) i n → Is row i n
is_take row k i n l h = rw (sym (get_or-take k row i nobody l)) h

take_is : (row : List Processing) (k i : ℕ) (n : Name) → i < k → Is row i n → Is (take k row) i n
take_is row k i n l h = rw (get_or-take k row i nobody l) h

-- it stands earlier
pub stands_before : (n : Name) (row : List Processing) (k : ℕ) → k ≤ length row → stands n (take k row) ≡ true → (i : ℕ) × (i < k) × Is row i n
stands_before n row k l e = let r = stands_at n (take k row) e in
    let b : r.0 < k = omega (arith, r.1, length-take-le k row l) in (r.0, b, is_take row k r.0 n b r.2)

pub before_stands : (n : Name) (row : List Processing) (k i : ℕ) → k ≤ length row → i < k → Is row i n → stands n (take k row) ≡ true
before_stands n row k i l b h = at_stands n (take k row) i (omega (arith, length-take-le k row l)) (take_is row k i n b h)

-- ---- how many records of a chare stand among the first
pub count_next : (c : ℕ) (row : List Processing) (i : ℕ) → i < length row → count c (take (suc i) row) ≡ count c (take i row) + cond (eqb (rec row i).chare c) 1 0
unfolding count keep
count_next c row i l = rw (take-suc row i nobody l, keep_append (λ p. eqb p.chare c) (take i row) (rec row i ∷ []), length-append)
    (either (eqb (rec row i).chare c) (λ e. rw e) (λ e. rw e))

count_up : (c : ℕ) (row : List Processing) (i : ℕ) → i < length row → (rec row i).chare ≡ c → count c (take (suc i) row) ≡ count c (take i row) + 1
count_up c row i l e = count_next c row i l ∙ rw (eq-eqb (rec row i).chare c e)

count_still : (c : ℕ) (row : List Processing) (i : ℕ) → i < length row → ((rec row i).chare ≡ c → ⊥) → count c (take (suc i) row) ≡ count c (take i row)
count_still c row i l n = count_next c row i l ∙ rw (ne_eqb (rec row i).chare c n) (omega arith)

count_le_next : (c : ℕ) (row : List Processing) (i : ℕ) → i < length row → count c (take i row) ≤ count c (take (suc i) row)
count_le_next c row i l = elim (eq? (rec row i).chare c) [
  | inl e ↦ omega (arith, count_up c row i l e)
  | inr n ↦ omega (arith, count_still c row i l n)
]

count_le : (c : ℕ) (row : List Processing) (i k : ℕ) → i ≤ k → k ≤ length row → count c (take i row) ≤ count c (take k row)
count_le c row i zero l h = rw (let z : i ≡ 0 = omega arith in z) (omega arith)
count_le c row i (suc k) l h = elim (lt? i (suc k)) [
  | inl b ↦ omega (arith, count_le c row i k (omega arith) (omega arith), count_le_next c row k (omega arith))
  | inr b ↦ rw (let z : i ≡ suc k = omega arith in z) (omega arith)
]

pub count_few : (c : ℕ) (row : List Processing) (i : ℕ) → i ≤ length row → count c (take i row) ≤ i
count_few c row zero l = unfold count in unfold keep in omega arith
count_few c row (suc i) l = elim (eq? (rec row i).chare c) [
  | inl e ↦ omega (arith, count_few c row i (omega arith), count_up c row i (omega arith) e)
  | inr n ↦ omega (arith, count_few c row i (omega arith), count_still c row i (omega arith) n)
]

-- ---- what each rule says of record i
module _ (row : List Processing) (i : ℕ) (g : good (take i row) (rec row i) ≡ true) where
  pub rules : (has_room (take i row) ≡ true) × (in_range (rec row i) ≡ true) × (sender_known (take i row) (rec row i) ≡ true) × (tn_next (take i row) (rec row i) ≡ true)
  unfolding good
  rules = and4 _ _ _ _ g

  pub good_room : i ≤ length row → i < 512
  unfolding has_room
  good_room l = omega (arith, ltb-true (length (take i row)) 512 rules.0, length-take-le i row l)

  pub good_tn : (rec row i).tn ≡ count (rec row i).chare (take i row) + 1
  unfolding tn_next
  good_tn = eqb-true _ _ rules.3

  pub good_chare : (1 ≤ (rec row i).chare) × ((rec row i).chare ≤ 12)
  unfolding in_range
  good_chare = let e = and_l _ _ rules.1 in (leb-true _ _ (and_l _ _ e), leb-true _ _ (and_r (leb 1 (rec row i).chare) _ e))

-- ---- a chare's TNs among the first n records are 1 to their number, each once
module _ (row : List Processing) (n : ℕ) (g : Good row n) where
  pub above : (i : ℕ) (c : ℕ) → i < n → (rec row i).chare ≡ c → (rec row i).tn ≡ count c (take i row) + 1
  above i c l e = good_tn row i (g.1 i l) ∙ rw e

  pub is_low : (i k : ℕ) (m : Name) → i < k → k ≤ n → Is row i m → (1 ≤ m.1) × (m.1 ≤ count m.0 (take k row))
  is_low i k m l h is =
      let t = above i m.0 (omega arith) is.0 in
      let u = count_up m.0 row i (omega (arith, g.0)) is.0 in
      let v = count_le m.0 row (suc i) k (omega arith) (omega (arith, g.0)) in
      (omega (arith, t, is.1), omega (arith, t, u, v, is.1))

  pub low_is : (k : ℕ) (c t : ℕ) → k ≤ n → 1 ≤ t → t ≤ count c (take k row) → (i : ℕ) × (i < k) × Is row i (c, t)
  low_is zero c t h a b = unfold count in unfold keep in absurd (omega arith)
  low_is (suc k) c t h a b = elim (lt? (count c (take k row)) t) [
    | inl f ↦ elim (eq? (rec row k).chare c) [
      | inl e ↦ (k, omega arith, (e, omega (arith, above k c (omega arith) e, count_up c row k (omega (arith, g.0)) e)))
      | inr d ↦ absurd (omega (arith, count_still c row k (omega (arith, g.0)) d))
    ]
    | inr f ↦ let r = low_is k c t (omega arith) a f in (r.0, omega (arith, r.1), r.2)
  ]

  once_below : (i k : ℕ) (m : Name) → i < k → k < n → Is row i m → Is row k m → ⊥
  once_below i k m l h is ks = omega (arith, (is_low i k m l (omega arith) is).1, above k m.0 h ks.0, ks.1)

  pub once : (i k : ℕ) (m : Name) → i < n → k < n → Is row i m → Is row k m → i ≡ k
  once i k m l h is ks = elim (lt? i k) [
    | inl b ↦ absurd (once_below i k m b h is ks)
    | inr b ↦ elim (lt? k i) [ inl d ↦ absurd (once_below k i m d l ks is) | inr d ↦ omega arith ]
  ]
