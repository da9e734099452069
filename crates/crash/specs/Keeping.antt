-- The loop that takes the copies and the notes from the machines whose buddy crashes.
use Rattle.std.specs.Prelude.{◌≡◌, refl, Bool, true, false, cond, not, ◌&&◌, ◌≢◌, List, [], ℕ, ◌+◌, ◌<◌, ◌≤◌, eqb, length, set}
use Rattle.std.proofs.Common.{sym, ap, ◌∙◌, arith, eq-eqb, ne_eqb}
use Rattle.std.proofs.Math.Bool.{and-true, and-false}
use Rattle.std.proofs.Math.Path.{fun_ext}
use Rattle.arrays.specs.ArrayMap.{map_beyond}
use Rattle.protocol.specs.{declared.Note.Note, Parts.State, Setters.with_copies, Crash.{kept_by, crash}}
use Rattle.words.specs.Part.{part, part_length, put}
use Rattle.head.specs.Head.{HELD, job_of, held_of}
use Rattle.notelist.specs.Notes.{notes}
use Rattle.store.specs.{Places.{STORE, NOTELIST, notes_from}, View.view, Visits.{chosen, visited, visit_hit, visit_miss, visit_all, notes_beyond, held_put}}

-- the machines below k are done
abbrev pub kept_to : State → ℕ → ℕ → State
kept_to s p k = with_copies s (visited (kept_by s.job p) (λ q. false) s.held k) s.copy (visited (kept_by s.job p) (λ q. []) s.notes k)

pub both : (s : State) {h i : ℕ → Bool} {n m : ℕ → List Note} → h ≡ i → n ≡ m → with_copies s h s.copy n ≡ with_copies s i s.copy m
both s e f = rw (e, f)

without : (k b : Bool) → cond k false b ≡ (b && not k)
without true b = sym (and-false b)
without false b = sym (and-true b)

held_beyond : (xs : List ℕ) → length xs ≡ STORE → (i : ℕ) → 7 ≤ i → false ≡ (view xs).held i
unfolding view held_of
held_beyond xs size i h = rw (map_beyond 0 (part HELD 7 xs) i (omega (arith, part_length HELD 7 xs (omega arith))))

-- ---- on the store: xs at the start, ys as the loop finds it, b the buddy of machine k
module _ (xs : List ℕ) (p k : ℕ) (ys : List ℕ) (inv : view ys ≡ kept_to (view xs) p k) where
  module _ (b : ℕ) (is_b : b ≡ (job_of ys).buddy k) where
    kept_is : kept_by (view xs).job p k ≡ eqb b p
    unfolding view kept_by
    kept_is = rw is_b (ap (λ t. eqb (t.job.buddy k) p) (sym inv))

    pub kept_miss : b ≢ p → view ys ≡ kept_to (view xs) p (k + 1)
    kept_miss e = let off = kept_is ∙ ne_eqb b p e in inv ∙ both (view xs) (visit_miss _ _ _ k off) (visit_miss _ _ _ k off)

    pub kept_hit : b ≡ p → length ys ≡ STORE → k < 7 → (m : List ℕ) → length m ≡ NOTELIST → notes m ≡ [] → view (put (notes_from k) NOTELIST (set ys (HELD + k) 0) m) ≡ kept_to (view xs) p (k + 1)
    kept_hit e size h m long z =
        let on = kept_is ∙ eq-eqb b p e in
        held_put ys size k h 0 m long [] z ∙ rw inv (both (view xs) (visit_hit _ _ _ k on false refl) (visit_hit _ _ _ k on [] refl))

  pub kept_end : length xs ≡ STORE → 7 ≤ k → view ys ≡ with_copies (view xs) (crash (view xs) p).held (view xs).copy (crash (view xs) p).notes
  unfolding crash chosen
  kept_end size h = inv ∙ both (view xs)
      (visit_all _ _ _ k 7 h (held_beyond xs size) ∙ fun_ext (λ q. without (kept_by (view xs).job p q) ((view xs).held q)))
      (visit_all _ _ _ k 7 h (λ j g. sym (notes_beyond xs j g)))
