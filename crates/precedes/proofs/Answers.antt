-- From what was found and marked to the right answer.
use Rattle.std.specs.Prelude.{◌≡◌, Bool, true, false, ◌&&◌, not, List, ◌⊎◌, ℕ, suc, ◌-◌, ◌<◌, ◌≤◌, length, replicate, eqb}
use Rattle.std.proofs.Common.{sym, ap, ◌∙◌, inl, inr, arith, eq-eqb, ne_eqb}
use Rattle.std.proofs.Math.Bool.{and-false}
use Rattle.std.proofs.Math.Seq.{take-length}
use Rattle.lists.specs.Tests.{and_i, true_not_false}
use Rattle.precedes.specs.{declared.Processing.Processing, declared.Answer.TheVariants.{Unknown, Yes, No}, Precedes.{Name, stands, bad_place, Right}}
use Rattle.precedes.specs.{Rows.{Is, good_room}, Visits.{Marked, Whole, Visited}}
use Rattle.precedes.specs.{Links.{found, known_stands}, Reading.{Reading, blank}}
use Rattle.precedes.proofs.Chains.{chain_forward, reach_chain, chain_reach}

abbrev pub unmarked : List Bool
unmarked = replicate 512 false

pub none_marked : (k : ℕ) → Marked unmarked k → ⊥
none_marked k m = true_not_false m (blank false 512 k)

pub whole_unmarked : (before sent : List ℕ) (place : ℕ) → Whole before sent unmarked place
whole_unmarked before sent place k m l h r = absurd (none_marked k h)

module _ {row : List Processing} {at before sent : List ℕ} (r : Reading row (length row) at before sent) where
  pub found_low : (n : Name) → found at n ≤ 512
  found_low n = elim (r.knows n) [
    | inl z ↦ omega (arith, z.0)
    | inr p ↦ omega (arith, p.2, good_room row p.0 (r.good_so_far.1 p.0 p.1) (omega (arith, p.1)))
  ]

  is_found : (n : Name) (place : ℕ) → place ≡ found at n → stands n row ≡ not (eqb place 0)
  is_found n place e = sym (ap (λ (v : ℕ). not (eqb v 0)) e ∙ known_stands row (length row) at n (omega arith) r.knows ∙ rw (take-length row))

  -- the record that was found
  the_record : (n : Name) (place : ℕ) → place ≡ found at n → 0 < place → (i : ℕ) × (i < length row) × (place ≡ suc i) × Is row i n
  the_record n place e f = elim (r.knows n) [
    | inl z ↦ absurd (omega (arith, e, z.0))
    | inr p ↦ (p.0, p.1, e ∙ p.2, p.3)
  ]

  -- a stands at the place `first`, b at the place `second`; 0 is no place
  module _ (bad : bad_place row ≡ 0) (a b : Name) {first second : ℕ} (fa : first ≡ found at a) (fb : second ≡ found at b) where
    pub right_unknown : (first ≡ 0) ⊎ (second ≡ 0) → Right row a b Unknown
    unfolding Right
    right_unknown (inl z) = (bad, rw (is_found a first fa, eq-eqb first 0 z))
    right_unknown (inr z) = (bad, rw (is_found b second fb, eq-eqb second 0 z) (and-false (stands a row)))

    module _ (sa : first ≡ 0 → ⊥) (sb : second ≡ 0 → ⊥) {out : List Bool} (v : Visited before sent second unmarked out) where
      both_stand : (stands a row && stands b row) ≡ true
      both_stand = and_i _ _ (is_found a first fa ∙ rw (ne_eqb first 0 sa)) (is_found b second fb ∙ rw (ne_eqb second 0 sb))

      pub right_yes : (first ≡ second → ⊥) → Marked out (first - 1) → Right row a b Yes
      unfolding Right
      right_yes d m =
          let p = the_record a first fa (omega (arith, sa)) in let q = the_record b second fb (omega (arith, sb)) in
          let e : first - 1 ≡ p.0 = omega (arith, p.2) in (
            bad,
            both_stand,
            elim (v.only p.0 (rw (sym e) m)) [
              | inl o ↦ absurd (none_marked p.0 o)
              | inr s ↦
                  let f : s.0 ≡ q.0 = omega (arith, s.1, q.2) in
                  elim (reach_chain row before sent r.good_so_far r.linked a b p.0 q.0 q.1 p.3 q.3 (rw (sym f) s.2)) [
                    | inl z ↦ absurd (d (omega (arith, p.2, q.2, z)))
                    | inr c ↦ c
                  ]
            ],
          )

      pub right_no : (first ≡ second) ⊎ (Marked out (first - 1) → ⊥) → Right row a b No
      unfolding Right
      right_no h = (
        bad,
        both_stand,
        λ c.
            let p = the_record a first fa (omega (arith, sa)) in let q = the_record b second fb (omega (arith, sb)) in
            elim h [
              | inl e ↦ omega (arith, e, p.2, q.2, chain_forward row r.good_so_far p.0 q.0 p.1 q.1 p.3 q.3 c)
              | inr n ↦ let e : first - 1 ≡ p.0 = omega (arith, p.2) in n (rw e (v.past p.0 (q.0, q.2, chain_reach row before sent r.good_so_far r.linked p.0 q.0 p.1 q.1 p.3 q.3 c)))
            ],
      )
