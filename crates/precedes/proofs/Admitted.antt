-- What the table answers of a record is what the rules say of it.
use Rattle.std.specs.Prelude.{◌≡◌, ◌&&◌, List, ℕ, ◌+◌, ◌-◌, ◌<◌, ◌≤◌, eqb, leb, take}
use Rattle.std.proofs.Common.{inl, inr, arith, eq-eqb, ne_eqb, le-leb, lt-ltb, length-take-le}
use Rattle.std.proofs.Math.Bool.{and-false}
use Rattle.std.proofs.lemmas.Bool.{lt-leb}
use Rattle.lists.specs.Tests.{eq?, lt?}
use Rattle.precedes.specs.{declared.Processing.Processing, Precedes.{Name, origin, count, sender_known, tn_next, has_room, good}}
use Rattle.precedes.specs.Rows.{rec, Good, is_low, low_is}
use Rattle.precedes.specs.Links.{found, Knows, known_stands, next_by, sent_by, admits}

module _ (row : List Processing) (i : ℕ) (at : List ℕ) (g : Good row i) (k : Knows row i at) where
  -- a name that stands is found, one that does not is not
  is_known : (n : Name) → 1 ≤ n.1 → n.1 ≤ count n.0 (take i row) → found at n ≡ 0 → ⊥
  is_known n a b z = let r = low_is row i g i n.0 n.1 (omega arith) a b in elim (k n) [
    | inl o ↦ o.1 r.0 r.1 r.2
    | inr p ↦ omega (arith, z, p.2)
  ]

  not_known : (n : Name) → count n.0 (take i row) < n.1 → found at n ≡ 0
  not_known n b = elim (k n) [
    | inl o ↦ o.0
    | inr p ↦ absurd (omega (arith, (is_low row i g p.0 i n p.1 (omega arith) p.3).1))
  ]

  pub next_right : (c t : ℕ) → next_by at c t ≡ eqb t (count c (take i row) + 1)
  unfolding next_by
  next_right c t = elim (eq? t (count c (take i row) + 1)) [
    | inl e ↦ rw (eq-eqb t _ e, le-leb 1 t (omega arith), eq-eqb _ 0 (not_known (c, t) (omega arith)))
        (elim (eq? t 1) [
          | inl o ↦ rw (eq-eqb t 1 o)
          | inr d ↦ rw (ne_eqb t 1 d, ne_eqb _ 0 (is_known (c, t - 1) (omega arith) (omega arith)))
        ])
    | inr d ↦ rw (ne_eqb t _ d) (elim (lt? t 1) [
      | inl z ↦ rw (lt-leb 1 t z)
      | inr a ↦ elim (lt? (count c (take i row)) t) [
        | inl b ↦ rw (ne_eqb t 1 (λ o. d (omega (arith, o))), eq-eqb _ 0 (not_known (c, t - 1) (omega arith))) (and-false (leb 1 t && eqb (found at (c, t)) 0))
        | inr b ↦ rw (le-leb 1 t a, ne_eqb _ 0 (is_known (c, t) a b))
      ]
    ])
  ]

  pub admits_right : i < 512 → admits at (rec row i) ≡ good (take i row) (rec row i)
  unfolding admits sent_by good sender_known tn_next has_room origin
  admits_right l = rw (length-take-le i row g.0, lt-ltb i 512 l, next_right (rec row i).chare (rec row i).tn, known_stands row i at ((rec row i).sender, (rec row i).sender_tn) g.0 k)
