-- What a visit of a record marks: itself, and all that links lead back to.
use Rattle.std.specs.Prelude.{◌≡◌, Bool, true, false, List, ◌⊎◌, ℕ, suc, ◌-◌, ◌<◌, ◌≤◌, length, get_or, set}
use Rattle.std.proofs.Common.{sym, ◌∙◌, inl, inr, arith, get_or-set_same, get_or-set_other}
use Rattle.lists.specs.Tests.{eq?}
use Rattle.precedes.specs.Chains.{Reach, itself, by_before, by_sender, reach_on}

abbrev pub Marked : List Bool → ℕ → Type 0
Marked seen k = get_or seen k false ≡ true

-- every link leads to an earlier record: places are counted from 1, records from 0
abbrev pub Falls : List ℕ → Type 0
Falls links = (i : ℕ) → get_or links i 0 ≤ i

module _ (before sent : List ℕ) where
  -- the record at a place, or one that links lead back to from it
  abbrev pub Past : ℕ → ℕ → Type 0
  Past place k = (i : ℕ) × (place ≡ suc i) × Reach before sent k i

  -- what is marked up to a place has its past marked
  abbrev pub Whole : List Bool → ℕ → Type 0
  Whole seen place = (k m : ℕ) → k < place → Marked seen k → Reach before sent m k → Marked seen m

  -- after a visit of a place
  pub record Visited (place : ℕ) (seen out : List Bool) : Type 0 where
    pub kept : (k : ℕ) → Marked seen k → Marked out k
    pub past : (k : ℕ) → Past place k → Marked out k
    pub only : (k : ℕ) → Marked out k → Marked seen k ⊎ Past place k

  -- place 0 is no record
  pub visited_none : (place : ℕ) (seen : List Bool) → place ≡ 0 → Visited place seen seen
  visited_none place seen e = record { kept = λ k m. m; past = λ k p. absurd (omega (arith, p.1, e)); only = λ k m. inl m }

  module _ (place : ℕ) (some : place ≡ 0 → ⊥) (seen : List Bool) (w : Whole seen place) where
    -- the record at the place
    abbrev i : ℕ
    i = place - 1

    the_place : place ≡ suc i
    the_place = omega (arith, some)

    is_i : {j : ℕ} → place ≡ suc j → j ≡ i
    is_i e = omega arith

    pub visited_before : Marked seen i → Visited place seen seen
    visited_before m = record {
      kept = λ k h. h;
      past = λ k p. w i k (omega (arith, the_place)) m (rw (sym (is_i p.1)) p.2);
      only = λ k h. inl h;
    }

    module _ (l : i < length seen) where
      -- the record is marked, then its two links are followed
      abbrev marked : List Bool
      marked = set seen i true

      mark_old : (k : ℕ) → Marked seen k → Marked marked k
      mark_old k m = elim (eq? k i) [
        | inl e ↦ rw e (get_or-set_same seen i true false l)
        | inr d ↦ get_or-set_other seen i k true false d ∙ m
      ]

      mark_new : (k : ℕ) → Marked marked k → (k ≡ i) ⊎ Marked seen k
      mark_new k m = elim (eq? k i) [
        | inl e ↦ inl e
        | inr d ↦ inr (sym (get_or-set_other seen i k true false d) ∙ m)
      ]

      pub whole_first : (p : ℕ) → p ≤ i → Whole marked p
      whole_first p b k m h mk r = elim (mark_new k mk) [
        | inl e ↦ absurd (omega (arith, e))
        | inr o ↦ mark_old m (w k m (omega arith) o r)
      ]

      module _ {out : List Bool} (v : Visited (get_or before i 0) marked out) where
        pub whole_second : (p : ℕ) → p ≤ i → Whole out p
        whole_second p b k m h mk r = elim (v.only k mk) [
          | inl o ↦ v.kept m (whole_first p b k m h o r)
          | inr q ↦ v.past m (q.0, q.1, reach_on r q.2)
        ]

        module _ {last : List Bool} (u : Visited (get_or sent i 0) out last) where
          to_past : (k : ℕ) → Reach before sent k i → Marked last k
          to_past k (itself e) = u.kept k (v.kept k (rw (sym e) (get_or-set_same seen i true false l)))
          to_past k (by_before j e r) = u.kept k (v.past k (j, e, r))
          to_past k (by_sender j e r) = u.past k (j, e, r)

          of_first : (k : ℕ) → Marked out k → Marked seen k ⊎ Past place k
          of_first k m = elim (v.only k m) [
            | inl o ↦ elim (mark_new k o) [ inl e ↦ inr (i, the_place, itself (sym e)) | inr s ↦ inl s ]
            | inr q ↦ inr (i, the_place, by_before q.0 q.1 q.2)
          ]

          pub visited_both : Visited place seen last
          visited_both = record {
            kept = λ k m. u.kept k (v.kept k (mark_old k m));
            past = λ k p. to_past k (rw (sym (is_i p.1)) p.2);
            only = λ k m. elim (u.only k m) [ inl o ↦ of_first k o | inr q ↦ inr (i, the_place, by_sender q.0 q.1 q.2) ];
          }
