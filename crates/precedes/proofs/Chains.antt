-- A chain between two records exists exactly where links lead from the one back to the other.
use Rattle.std.specs.Prelude.{◌≡◌, refl, true, List, [], ◌∷◌, ◌⊎◌, ℕ, zero, suc, ◌+◌, ◌-◌, ◌<◌, ◌≤◌, length, get_or}
use Rattle.std.proofs.Common.{sym, ap, ◌∙◌, inl, inr, arith}
use mathlib.Core.List.Memᴰ.{head as here, tail as there}
use Rattle.lists.specs.{Tests.{eq?, lt?}, Lists.{◌∈◌}}
use Rattle.precedes.specs.{declared.Processing.Processing, Precedes.{Name, name, origin, stands, Chain, on_chare, through_sender, through}}
use Rattle.precedes.specs.Rows.{rec, Is, Good, at_stands, stands_at, good_tn, good_chare, is_low, low_is, once, above}
use Rattle.precedes.specs.Chains.{previous, Linked, Reach, itself, by_before, by_sender, reach_on}
use Rattle.precedes.proofs.Rows.{good_sender}

at_rec : (p : Processing) (row : List Processing) → p ∈ row → (i : ℕ) × (i < length row) × (rec row i ≡ p)
at_rec p row (here e) = (0, omega arith, sym e)
at_rec p row (there m) = let r = at_rec p _ m in (suc r.0, omega (arith, r.1), r.2)

same_name : (a b : Name) → a.0 ≡ b.0 → a.1 ≡ b.1 → a ≡ b
same_name a b p q = λ i. (p i, q i)

rec_in : (row : List Processing) (i : ℕ) → i < length row → rec row i ∈ row
rec_in [] i l = absurd (omega arith)
rec_in (p ∷ row) zero l = here refl
rec_in (p ∷ row) (suc i) l = there (rec_in row i (omega arith))

pub named_in : (row : List Processing) (p : Processing) → p ∈ row → (i : ℕ) × (i < length row) × (rec row i ≡ p) × Is row i (name p)
unfolding name
named_in row p m = let r = at_rec p row m in (r.0, r.1, r.2, (ap (λ (q : Processing). q.chare) r.2, ap (λ (q : Processing). q.tn) r.2))

pub end_stands : {row : List Processing} {a b : Name} → Chain row a b → stands b row ≡ true
end_stands (on_chare f s e t) = s
end_stands {row} (through_sender p m s) = let r = named_in row p m in at_stands (name p) row r.0 r.1 r.3
end_stands (through c d) = end_stands d

-- a chain goes forward in the row
module _ (row : List Processing) (g : Good row (length row)) where
  pub chain_forward : {a b : Name} (i j : ℕ) → i < length row → j < length row → Is row i a → Is row j b → Chain row a b → i < j
  unfolding origin
  chain_forward i j l h is js (on_chare {a = a} {b = b} f s e t) = elim (lt? i j) [
    | inl y ↦ y
    | inr n ↦ elim (eq? i j) [
      | inl same ↦ absurd (omega (arith, t, is.1, ap (λ (k : ℕ). (rec row k).tn) same, js.1))
      | inr d ↦ absurd (omega (arith, t, (is_low row (length row) g j i b (omega arith) (omega arith) js).1, above row (length row) g i b.0 l (is.0 ∙ e), is.1))
    ]
  ]
  chain_forward i j l h is js (through_sender p m s) =
      let r = named_in row p m in
      let same = once row (length row) g j r.0 (name p) h r.1 js r.3 in
      let e : rec row j ≡ p = rw same r.2 in
      elim (good_sender row j (g.1 j h) (omega arith)) [
        | inl desk ↦ absurd (omega (arith, (good_chare row i (g.1 i l)).0, is.0, ap (λ (x : Processing). x.sender) e, desk.0))
        | inr k ↦ omega (arith, k.1, once row (length row) g i k.0 (origin p) l (omega (arith, k.1)) is (rw (sym e) k.2))
      ]
  chain_forward i j l h is js (through {b = b} c d) =
      let k = stands_at b row (end_stands c) in
      omega (arith, chain_forward i k.0 l k.1 is k.2 c, chain_forward k.0 j k.1 h k.2 js d)

module _ (row : List Processing) (before sent : List ℕ) (g : Good row (length row)) (links : Linked row (length row) before sent) where
  abbrev n : ℕ
  n = length row

  -- the name of record i
  abbrev the : ℕ → Name
  the i = name (rec row i)

  is_the : (i : ℕ) → Is row i (the i)
  unfolding name
  is_the i = (refl, refl)

  known : (i : ℕ) → i < n → stands (the i) row ≡ true
  known i l = at_stands (the i) row i l (is_the i)

  -- ---- links are steps of a chain
  before_chain : (i j : ℕ) → i < n → get_or before i 0 ≡ suc j → (j < i) × Chain row (the j) (the i)
  unfolding name
  before_chain i j l e = elim (links.to_before i l) [
    | inl z ↦ absurd (omega (arith, e, z.0))
    | inr p ↦
        let m : p.0 ≡ j = omega (arith, e, p.2) in
        let s : Is row j (previous (rec row i)) = rw (sym m) p.3 in
        let b : j < i = omega (arith, p.1, m) in
        (b, on_chare (known j (omega arith)) (known i l) s.0 (omega (arith, s.1, good_tn row i (g.1 i l))))
  ]

  sender_chain : (i j : ℕ) → i < n → get_or sent i 0 ≡ suc j → (j < i) × Chain row (the j) (the i)
  unfolding name origin
  sender_chain i j l e = elim (links.to_sender i l) [
    | inl z ↦ absurd (omega (arith, e, z.0))
    | inr p ↦
        let m : p.0 ≡ j = omega (arith, e, p.2) in
        let s : Is row j (origin (rec row i)) = rw (sym m) p.3 in
        let b : j < i = omega (arith, p.1, m) in
        let o : origin (rec row i) ≡ the j = same_name (origin (rec row i)) (the j) (sym s.0) (sym s.1) in
        (b, rw (sym o) (through_sender (rec row i) (rec_in row i l) (rw o (known j (omega arith)))))
  ]

  step : (k i j : ℕ) → (j < i) × Chain row (the j) (the i) → (k ≡ j) ⊎ ((k < j) × Chain row (the k) (the j)) → (k < i) × Chain row (the k) (the i)
  step k i j s (inl e) = rw e s
  step k i j s (inr r) = (omega (arith, s.0, r.0), through r.1 s.1)

  back : (k i : ℕ) → i < n → Reach before sent k i → (k ≡ i) ⊎ ((k < i) × Chain row (the k) (the i))
  back k i l (itself e) = inl (sym e)
  back k i l (by_before j e r) = let s = before_chain i j l e in inr (step k i j s (back k j (omega (arith, s.0)) r))
  back k i l (by_sender j e r) = let s = sender_chain i j l e in inr (step k i j s (back k j (omega (arith, s.0)) r))

  pub reach_chain : (a b : Name) (i j : ℕ) → j < n → Is row i a → Is row j b → Reach before sent i j → (i ≡ j) ⊎ Chain row a b
  unfolding name
  reach_chain a b i j l is js r = elim (back i j l r) [
    | inl e ↦ inl e
    | inr c ↦ inr (rw (same_name a (the i) (sym is.0) (sym is.1), same_name b (the j) (sym js.0) (sym js.1)) c.1)
  ]

  -- ---- steps of a chain are links
  one_below : (j c t : ℕ) → j < n → 1 ≤ t → Is row j (c, suc t) → (k : ℕ) × (k < j) × (get_or before j 0 ≡ suc k) × Is row k (c, t)
  one_below j c t h a js = elim (links.to_before j h) [
    | inl z ↦
        let r = low_is row n g j (rec row j).chare ((rec row j).tn - 1) (omega arith) (omega (arith, js.1)) (omega (arith, good_tn row j (g.1 j h))) in
        absurd (z.1 r.0 r.1 r.2)
    | inr p ↦ (p.0, p.1, p.2, (p.3.0 ∙ js.0, omega (arith, p.3.1, js.1)))
  ]

  -- from chare c's processing with a higher TN back to the one with TN t
  down : (d i j c t : ℕ) → i < n → j < n → Is row i (c, t) → Is row j (c, t + suc d) → Reach before sent i j
  down zero i j c t l h is js =
      let low = is_low row n g i n (c, t) l (omega arith) is in
      let k = one_below j c t h low.0 (js.0, omega (arith, js.1)) in
      let same = once row n g i k.0 (c, t) l (omega (arith, k.1)) is k.3 in
      by_before k.0 k.2 (itself (sym same))
  down (suc d) i j c t l h is js =
      let k = one_below j c (t + suc d) h (omega arith) (js.0, omega (arith, js.1)) in
      by_before k.0 k.2 (down d i k.0 c t l (omega (arith, k.1)) is k.3)

  from_sender : (i j : ℕ) → i < n → j < n → Is row i (origin (rec row j)) → Reach before sent i j
  unfolding origin
  from_sender i j l h is = elim (links.to_sender j h) [
    | inl z ↦ elim (good_sender row j (g.1 j h) (omega arith)) [
      | inl desk ↦ absurd (omega (arith, (good_chare row i (g.1 i l)).0, is.0, desk.0))
      | inr r ↦ absurd (z.1 r.0 r.1 r.2)
    ]
    | inr p ↦
        let same = once row n g i p.0 (origin (rec row j)) l (omega (arith, p.1)) is p.3 in
        by_sender p.0 p.2 (itself (sym same))
  ]

  pub chain_reach : {a b : Name} (i j : ℕ) → i < n → j < n → Is row i a → Is row j b → Chain row a b → Reach before sent i j
  chain_reach i j l h is js (on_chare {a = a} {b = b} f s e t) = down (b.1 - a.1 - 1) i j a.0 a.1 l h is (js.0 ∙ sym e, omega (arith, js.1))
  chain_reach i j l h is js (through_sender p m s) =
      let r = named_in row p m in
      let same = once row n g j r.0 (name p) h r.1 js r.3 in
      let e : rec row j ≡ p = rw same r.2 in
      from_sender i j l h (rw e is)
  chain_reach i j l h is js (through {b = b} c d) =
      let k = stands_at b row (end_stands c) in
      reach_on (chain_reach i k.0 l k.1 is k.2 c) (chain_reach k.0 j k.1 h k.2 js d)
