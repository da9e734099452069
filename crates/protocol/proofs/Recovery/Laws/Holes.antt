-- The holes read off a memory: what a change of its table or a work does to them, and which is the lowest.
use Rattle.std.specs.Prelude.{◌≡◌, refl, Bool, true, false, not, ◌&&◌, ◌||◌, ◌≢◌, List, [], ◌∷◌, ◌++◌, map, ℕ, ◌+◌, ◌<◌, eqb}
use Rattle.std.proofs.Common.{sym, ◌∙◌, subst, inl, inr, arith}
use Rattle.std.proofs.Math.Path.{fun_ext}
use Rattle.std.proofs.Math.Bool.{and-false}
use Rattle.std.proofs.Math.Option.{Option, some, none}
use Rattle.std.proofs.Math.Dec.{ltb}
use borrow.Author.Tests.{eqb-true, eqb-false, eq-eqb, ne_eqb, ltb-true, ltb-false, lt-ltb, le-ltb}
use Rattle.lists.specs.Tests.{either, eq?, lt?, and_l, and_r, not_true}
use Rattle.lists.specs.Lists.{anyb, anyb_true, anyb_false, true_anyb, keep, change1}
use Rattle.protocol.specs.declared.Entry.{Entry}
use Rattle.protocol.specs.Parts.{Memory}
use Rattle.protocol.specs.Tickets.{has_tn, mark_noted, lowest_hole}
use Rattle.protocol.specs.Working.{next_entry, work_entry}
use Rattle.protocol.specs.Checkpoint.{above_height, pruned}
use Rattle.protocol.proofs.Recovery.Holes.{is_hole, Lowest, ReadOff}
use Rattle.protocol.proofs.Recovery.Laws.NewTicket.{NotEntered, hole_some, hole_none}
use Rattle.protocol.proofs.Recovery.Laws.Lookups.{next_entry_some}

-- the holes of a memory
abbrev pub holes_of : Memory → ℕ → Bool
holes_of m = is_hole m.height m.highest_at_restart m.table

-- ---- what changes of a table do to its holes
-- an entry that keeps its TN
entered_change1 : (t : ℕ) (p : Entry → Bool) (f : Entry → Entry) → ((e : Entry) → (f e).tn ≡ e.tn) → (l : List Entry) → anyb (has_tn t) (change1 p f l) ≡ anyb (has_tn t) l
unfolding anyb change1 has_tn
entered_change1 t p f same [] = refl
entered_change1 t p f same (e ∷ l) = either (p e) (λ q. rw (q, same e)) (λ q. rw (q, entered_change1 t p f same l))

-- one entry more
entered_snoc : (t : ℕ) (l : List Entry) (e : Entry) → anyb (has_tn t) (l ++ (e ∷ [])) ≡ (anyb (has_tn t) l || eqb e.tn t)
unfolding anyb has_tn
entered_snoc t [] e = either (eqb e.tn t) (λ q. rw q) (λ q. rw q)
entered_snoc t (x ∷ l) e = either (eqb x.tn t) (λ q. rw q) (λ q. rw (q, entered_snoc t l e))

all_but : (a x y : Bool) → (a && not (x || y)) ≡ (a && not x && not y)
all_but true true y = refl
all_but true false y = refl
all_but false x y = refl

pub holes_snoc : (h top : ℕ) (l : List Entry) (e : Entry) (t : ℕ) → is_hole h top (l ++ (e ∷ [])) t ≡ (is_hole h top l t && not (eqb e.tn t))
unfolding is_hole
holes_snoc h top l e t = rw (entered_snoc t l e) (all_but (ltb h t && ltb t top) (anyb (has_tn t) l) (eqb e.tn t))

pub holes_change1 : (h top : ℕ) (p : Entry → Bool) (f : Entry → Entry) → ((e : Entry) → (f e).tn ≡ e.tn) → (l : List Entry) (t : ℕ) → is_hole h top (change1 p f l) t ≡ is_hole h top l t
unfolding is_hole
holes_change1 h top p f same l t = rw (entered_change1 t p f same l)

-- no TN is below 0
pub no_hole : (h : ℕ) (l : List Entry) (t : ℕ) → is_hole h 0 l t ≡ false
unfolding is_hole
no_hole h l t = rw (le-ltb t 0 (omega arith), and-false)

-- the height rises to a TN that has an entry
pub holes_work : (m : Memory) (e : Entry) → next_entry m ≡ some e → (t : ℕ) → holes_of (work_entry m e) t ≡ holes_of m t
unfolding work_entry is_hole has_tn
holes_work m e found t =
    let (i, q) = next_entry_some m found in
    elim (eq? t (m.height + 1)) [
      | inl d ↦
          let taken : anyb (has_tn t) m.table ≡ true = true_anyb (has_tn t) i (eq-eqb e.tn t (q ∙ sym d)) in
          rw taken (simp and-false)
      | inr d ↦ elim (lt? m.height t) [
        | inl a ↦ rw (lt-ltb (m.height + 1) t (omega arith), lt-ltb m.height t a)
        | inr a ↦ rw (le-ltb (m.height + 1) t (omega arith), le-ltb m.height t a)
      ]
    ]

-- entries at or below the height go
entered_pruned : (h t : ℕ) → h < t → (l : List Entry) → anyb (has_tn t) (map mark_noted (keep (above_height h) l)) ≡ anyb (has_tn t) l
unfolding anyb has_tn keep above_height mark_noted
entered_pruned h t a [] = refl
entered_pruned h t a (e ∷ l) = either (ltb h e.tn)
    (λ q. rw (q, entered_pruned h t a l))
    (λ q. let b = ltb-false h e.tn q in let d : e.tn ≢ t = omega arith in rw (q, ne_eqb e.tn t d, entered_pruned h t a l))

pub holes_pruned : (m : Memory) (t : ℕ) → holes_of (pruned m) t ≡ holes_of m t
unfolding pruned is_hole
holes_pruned m t = either (ltb m.height t) (λ e. rw (e, entered_pruned m.height t (ltb-true _ _ e) m.table)) (λ e. rw e)

-- ---- the lowest
module _ (h top : ℕ) (l : List Entry) (t : ℕ) where
  hole_true : is_hole h top l t ≡ true → (h < t) × (t < top) × NotEntered l t
  unfolding is_hole has_tn
  hole_true e =
      let f = and_l (ltb h t && ltb t top) _ e in (
        ltb-true _ _ (and_l _ _ f),
        ltb-true _ _ (and_r (ltb h t) _ f),
        λ x i. eqb-false _ _ (anyb_false (has_tn t) l (not_true _ (and_r (ltb h t && ltb t top) _ e)) x i),
      )

  true_hole : h < t → t < top → NotEntered l t → is_hole h top l t ≡ true
  unfolding is_hole has_tn
  true_hole a b free = rw (lt-ltb h t a, lt-ltb t top b)
      (either (anyb (has_tn t) l) (λ e. let (x, i, q) = anyb_true (has_tn t) l e in absurd (free x i (eqb-true _ _ q))) (λ e. rw e))

module _ (h top : ℕ) (l : List Entry) where
  lowest_is : (o : Option ℕ) → lowest_hole h top l ≡ o → Lowest (is_hole h top l) o
  lowest_is none e = λ t. either (is_hole h top l t)
      (λ q. let (a, b, free) = hole_true h top l t q in let (x, i, r) = hole_none h top l e t a b in absurd (free x i r))
      (λ q. q)
  lowest_is (some u) e =
      let r = hole_some h top l e in (
        true_hole h top l u r.above r.below r.free,
        λ v q.
            let (a, b, free) = hole_true h top l v q in
            elim (lt? v u) [ inl d ↦ let (x, i, p) = r.taken v a d in absurd (free x i p) | inr d ↦ d ],
      )

pub read_off : {h : ℕ → Bool} (m : Memory) → ((t : ℕ) → h t ≡ holes_of m t) → ReadOff h m
read_off m k = record {
  same = k;
  lowest = subst (λ g. Lowest g (lowest_hole m.height m.highest_at_restart m.table)) (sym (fun_ext k)) (lowest_is m.height m.highest_at_restart m.table _ refl);
}
