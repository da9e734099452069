-- The loops that clear the memories of a machine's chares, and the copies that it keeps.
use Rattle.std.specs.Prelude.{◌≡◌, refl, Bool, true, false, ◌≢◌, List, ℕ, ◌+◌, ◌<◌, ◌≤◌, eqb, length, replicate}
use Rattle.std.proofs.Common.{sym, ap, ◌∙◌, arith, eq-eqb, ne_eqb}
use Rattle.protocol.specs.{Parts.{State, Memory, blank, on, at_home}, Setters.{with_live, with_copies}, Crash.{kept_by, crash}}
use Rattle.words.specs.Part.{part, part_length, put}
use Rattle.head.specs.Head.{job_of}
use Rattle.memory.specs.{Places.MEMORY, View.memory_view, Blank.memory_zeros}
use Rattle.store.specs.{Places.{STORE, live_from, copy_from}, View.view, ViewLaws.{live_put, copy_put}}
use Rattle.store.specs.{Visits.{chosen, visited, visit_hit, visit_miss, visit_all, live_beyond, copy_beyond}}

-- a part of a store cleared
cleared : (xs : List ℕ) (a : ℕ) (ys : List ℕ) → a + MEMORY ≤ length xs → ys ≡ replicate (length (part a MEMORY xs)) 0 → memory_view ys ≡ blank
cleared xs a ys h e = rw (e, part_length a MEMORY xs h) memory_zeros

-- ---- the chares below k are done
abbrev gone : ℕ → Memory
gone c = blank

abbrev pub live_to : State → ℕ → ℕ → State
live_to s p k = with_live s (visited (on s.job p) gone s.live k)

abbrev theirs : State → ℕ → ℕ → Bool
theirs s p c = kept_by s.job p (s.job.home c)

abbrev pub with_copy_map : State → (ℕ → Memory) → State
with_copy_map s f = with_copies s s.held f s.notes

abbrev pub copy_to : State → ℕ → ℕ → State
copy_to s p k = with_copy_map s (visited (theirs s p) gone s.copy k)

-- ---- on the store: xs at the start, ys as the loop finds it
module _ (xs : List ℕ) (p k : ℕ) (ys : List ℕ) where
  module _ (inv : view ys ≡ live_to (view xs) p k) where
    here_is : on (view xs).job p k ≡ on (job_of ys) p k
    unfolding view
    here_is = ap (λ t. on t.job p k) (sym inv)

    pub live_miss : on (job_of ys) p k ≡ false → view ys ≡ live_to (view xs) p (k + 1)
    live_miss e = inv ∙ ap (with_live (view xs)) (visit_miss _ _ _ k (here_is ∙ e))

    pub live_hit : on (job_of ys) p k ≡ true → length ys ≡ STORE → k < 13 → (m : List ℕ) → length m ≡ MEMORY → m ≡ replicate (length (part (live_from k) MEMORY ys)) 0
        → view (put (live_from k) MEMORY ys m) ≡ live_to (view xs) p (k + 1)
    live_hit e size h m long z =
        live_put ys size k h m long
        ∙ rw (cleared ys (live_from k) m (omega arith) z, inv) (ap (with_live (view xs)) (visit_hit _ _ _ k (here_is ∙ e) blank refl))

    pub live_end : 13 ≤ k → view ys ≡ with_live (view xs) (crash (view xs) p).live
    unfolding crash at_home chosen
    live_end h = inv ∙ ap (with_live (view xs)) (visit_all _ _ _ k 13 h (λ j g. sym (live_beyond xs j g)))

  module _ (inv : view ys ≡ copy_to (view xs) p k) where
    -- q is the machine of chare k, b its buddy
    module _ (q b : ℕ) (is-q : q ≡ (job_of ys).home k) (is_b : b ≡ (job_of ys).buddy q) where
      theirs_is : theirs (view xs) p k ≡ eqb b p
      unfolding view kept_by
      theirs_is = rw (is_b, is-q) (ap (λ t. eqb (t.job.buddy (t.job.home k)) p) (sym inv))

      pub copy_miss : b ≢ p → view ys ≡ copy_to (view xs) p (k + 1)
      copy_miss e = inv ∙ ap (with_copy_map (view xs)) (visit_miss _ _ _ k (theirs_is ∙ ne_eqb b p e))

      pub copy_hit : b ≡ p → length ys ≡ STORE → k < 13 → (m : List ℕ) → length m ≡ MEMORY → m ≡ replicate (length (part (copy_from k) MEMORY ys)) 0
          → view (put (copy_from k) MEMORY ys m) ≡ copy_to (view xs) p (k + 1)
      copy_hit e size h m long z =
          copy_put ys size k h m long
          ∙ rw (cleared ys (copy_from k) m (omega arith) z, inv) (ap (with_copy_map (view xs)) (visit_hit _ _ _ k (theirs_is ∙ eq-eqb b p e) blank refl))

    pub copy_end : 13 ≤ k → view ys ≡ with_copies (view xs) (view xs).held (crash (view xs) p).copy (view xs).notes
    unfolding crash chosen
    copy_end h = inv ∙ ap (with_copy_map (view xs)) (visit_all _ _ _ k 13 h (λ j g. sym (copy_beyond xs j g)))
