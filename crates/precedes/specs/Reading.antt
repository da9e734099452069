-- The first i records of a row were read, and all are good.
use Rattle.std.specs.Prelude.{◌≡◌, refl, true, List, ℕ, suc, ◌+◌, ◌-◌, ◌<◌, ◌≤◌, cond, eqb, length, take, get_or, set, replicate}
use Rattle.std.proofs.Common.{sym, ap, ◌∙◌, inl, inr, arith, eq-eqb, ne_eqb, length-set, get_or-set_same, get_or-set_other}
use Rattle.std.proofs.lemmas.List.{length-replicate}
use Rattle.lists.specs.Tests.{either, eq?, lt?}
use Rattle.arrays.specs.ArrayMap.{as_map, map_blank}
use Rattle.precedes.specs.{declared.Processing.Processing, Precedes.{Name, name, origin, good}}
use Rattle.precedes.specs.{Rows.{rec, Good, count_few, good_tn, good_chare}, Chains.{Place, previous, Linked}, Visits.{Falls}}
use Rattle.precedes.specs.Links.{SLOTS, tabled, slot, found, Knows, table_in, found_new, found_old}

pub record Reading (row : List Processing) (i : ℕ) (at before sent : List ℕ) : Type 0 where
  pub at_long : length at ≡ SLOTS
  pub before_long : length before ≡ 512
  pub sent_long : length sent ≡ 512
  pub good_so_far : Good row i
  pub knows : Knows row i at
  pub linked : Linked row i before sent
  pub before_blank : (j : ℕ) → i ≤ j → get_or before j 0 ≡ 0
  pub sent_blank : (j : ℕ) → i ≤ j → get_or sent j 0 ≡ 0

-- how many records were read where the first bad one stands at a place, or where none is bad (0)
unfoldable pub read_to : List Processing → ℕ → ℕ
read_to row place = cond (eqb place 0) (length row) (place - 1)

pub read_all : (row : List Processing) (place : ℕ) → place ≡ 0 → read_to row place ≡ length row
unfolding read_to
read_all row place e = rw (eq-eqb place 0 e)

pub read_some : (row : List Processing) (place i : ℕ) → place ≡ i + 1 → read_to row place ≡ i
unfolding read_to
read_some row place i e = rw (ne_eqb place 0 (λ z. omega (arith, z, e))) (omega arith)

abbrev pub zeros : ℕ → List ℕ
zeros n = replicate n 0

pub blank : {A : Type 0} (d : A) (n i : ℕ) → get_or (replicate n d) i d ≡ d
unfolding as_map
blank {A} d n i = ap (λ (f : ℕ → A). f i) (map_blank d n)

found_blank : (n : Name) → found (zeros SLOTS) n ≡ 0
unfolding found
found_blank n = either (tabled n) (λ e. rw e (blank 0 SLOTS (slot n))) (λ e. rw e)

pub reading_none : (row : List Processing) → Reading row 0 (zeros SLOTS) (zeros 512) (zeros 512)
reading_none row = record {
  at_long = length-replicate {A = ℕ} SLOTS 0;
  before_long = length-replicate {A = ℕ} 512 0;
  sent_long = length-replicate {A = ℕ} 512 0;
  good_so_far = (omega arith, λ i l. absurd (omega arith));
  knows = λ n. inl (found_blank n, λ k l. absurd (omega arith));
  linked = record { to_before = λ i l. absurd (omega arith); to_sender = λ i l. absurd (omega arith) };
  before_blank = λ j l. blank 0 512 j;
  sent_blank = λ j l. blank 0 512 j;
}

-- a place among the first i is at most i
place_low : (row : List Processing) (i : ℕ) (n : Name) (v : ℕ) → Place row i n v → v ≤ i
place_low row i n v (inl z) = omega (arith, z.0)
place_low row i n v (inr p) = omega (arith, p.1, p.2)

-- one link more
links_more : (P : ℕ → ℕ → Type 0) (links : List ℕ) (i v : ℕ) → i < length links → ((j : ℕ) → j < i → P j (get_or links j 0)) → P i v → (j : ℕ) → j < suc i → P j (get_or (set links i v) j 0)
links_more P links i v l old new j b = elim (eq? j i) [
  | inl e ↦ rw (e, get_or-set_same links i v 0 l) new
  | inr d ↦ rw (get_or-set_other links i j v 0 d) (old j (omega arith))
]

blank_more : (links : List ℕ) (i v : ℕ) → ((j : ℕ) → i ≤ j → get_or links j 0 ≡ 0) → (j : ℕ) → suc i ≤ j → get_or (set links i v) j 0 ≡ 0
blank_more links i v f j l = get_or-set_other links i j v 0 (λ e. omega (arith, e)) ∙ f j (omega arith)

-- every link leads to an earlier record
links_fall : (P : ℕ → Name) (row : List Processing) (links : List ℕ) (n : ℕ) → ((i : ℕ) → i < n → Place row i (P i) (get_or links i 0)) → ((i : ℕ) → n ≤ i → get_or links i 0 ≡ 0) → Falls links
links_fall P row links n f g i = elim (lt? i n) [ inl l ↦ place_low row i (P i) _ (f i l) | inr l ↦ omega (arith, g i l) ]

pub reading_falls : {row : List Processing} {i : ℕ} {at before sent : List ℕ} → Reading row i at before sent → Falls before × Falls sent
reading_falls {row} {i} {at} {before} {sent} r =
    (links_fall (λ j. previous (rec row j)) row before i r.linked.to_before r.before_blank, links_fall (λ j. origin (rec row j)) row sent i r.linked.to_sender r.sent_blank)

module _ (row : List Processing) (i : ℕ) (at before sent : List ℕ) (r : Reading row i at before sent) (l : i < length row) (room : i < 512) (g : good (take i row) (rec row i) ≡ true) where
  abbrev the : Name
  the = name (rec row i)

  pub good_more : Good row (suc i)
  good_more = (omega arith, λ j b. elim (eq? j i) [ inl e ↦ rw e g | inr d ↦ r.good_so_far.1 j (omega arith) ])

  tn_low : (rec row i).tn ≤ 512
  tn_low = omega (arith, good_tn row i g, count_few (rec row i).chare row i (omega arith))

  pub the_tabled : tabled the ≡ true
  unfolding name
  the_tabled = let c = good_chare row i g in table_in the c.0 c.1 (omega (arith, good_tn row i g)) tn_low

  -- a name that is not this record's
  other : (n : Name) → ((n.0 ≡ the.0) × (n.1 ≡ the.1) → ⊥) → Place row (suc i) n (found (set at (slot the) (suc i)) n)
  unfolding name
  other n d = rw (found_old at the (suc i) r.at_long the_tabled n d) (elim (r.knows n) [
    | inl z ↦ inl (z.0, λ k b is. elim (eq? k i) [ inl e ↦ d (rw e at (sym is.0), rw e at (sym is.1)) | inr f ↦ z.1 k (omega arith) is ])
    | inr p ↦ inr (p.0, omega (arith, p.1), p.2, p.3)
  ])

  knows_more : Knows row (suc i) (set at (slot the) (suc i))
  unfolding name
  knows_more n = elim (eq? n.0 the.0) [
    | inl c ↦ elim (eq? n.1 the.1) [
      | inl t ↦ let e : n ≡ the = λ k. (c k, t k) in rw (e, found_new at the (suc i) r.at_long the_tabled) (inr (i, omega arith, refl, (refl, refl)))
      | inr d ↦ other n (λ p. d p.1)
    ]
    | inr d ↦ other n (λ p. d p.0)
  ]

  pub reading_more : Reading row (suc i) (set at (slot the) (suc i)) (set before i (found at (previous (rec row i)))) (set sent i (found at (origin (rec row i))))
  reading_more =
      let b = r.knows (previous (rec row i)) in
      let s = r.knows (origin (rec row i)) in
      let lb : i < length before = omega (arith, r.before_long) in
      let ls : i < length sent = omega (arith, r.sent_long) in
      record {
        at_long = length-set at _ _ ∙ r.at_long;
        before_long = length-set before _ _ ∙ r.before_long;
        sent_long = length-set sent _ _ ∙ r.sent_long;
        good_so_far = good_more;
        knows = knows_more;
        linked = record {
          to_before = links_more (λ j v. Place row j (previous (rec row j)) v) before i _ lb r.linked.to_before b;
          to_sender = links_more (λ j v. Place row j (origin (rec row j)) v) sent i _ ls r.linked.to_sender s;
        };
        before_blank = blank_more before i _ r.before_blank;
        sent_blank = blank_more sent i _ r.sent_blank;
      }
