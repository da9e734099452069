-- The targets of a machine's chares dropped, one chare after the other.
use Rattle.std.specs.Prelude.{◌≡◌, refl, true, false, List, ℕ, ◌+◌, ◌<◌, ◌≤◌, length, set}
use Rattle.std.proofs.Common.{sym, ap, ◌∙◌, arith}
use Rattle.arrays.specs.ArrayMap.{map_beyond}
use Rattle.protocol.specs.Parts.{State, on, at_home}
use Rattle.protocol.specs.Setters.{with_status}
use Rattle.words.specs.Part.{part, part_length}
use Rattle.head.specs.Head.{TARGET, job_of, target_of}
use Rattle.store.specs.{Places.STORE, View.view, ViewLaws.target_set, Visits.{chosen, visited, visit_hit, visit_miss, visit_all}}

-- the targets of the chares below c
abbrev pub dropped_to : State → ℕ → ℕ → State
dropped_to s p c = with_status s s.status (visited (on s.job p) (λ _. 0) s.target c)

-- ---- on the store: xs at the start, ys as the loop finds it
module _ (xs : List ℕ) (p k : ℕ) (ys : List ℕ) (inv : view ys ≡ dropped_to (view xs) p k) where
  here_is : on (view xs).job p k ≡ on (job_of ys) p k
  unfolding view
  here_is = ap (λ t. on t.job p k) (sym inv)

  pub drop_miss : on (job_of ys) p k ≡ false → view ys ≡ dropped_to (view xs) p (k + 1)
  drop_miss e = inv ∙ ap (with_status (view xs) (view xs).status) (visit_miss _ _ _ k (here_is ∙ e))

  pub drop_hit : on (job_of ys) p k ≡ true → length ys ≡ STORE → k < 13 → view (set ys (TARGET + k) 0) ≡ dropped_to (view xs) p (k + 1)
  drop_hit e size h =
      target_set ys size 0 k h ∙ rw inv (ap (with_status (view xs) (view xs).status) (visit_hit _ _ _ k (here_is ∙ e) 0 refl))

  pub drop_end : length xs ≡ STORE → 13 ≤ k → view ys ≡ with_status (view xs) (view xs).status (at_home (view xs).job p (λ c t. 0) (view xs).target)
  unfolding view target_of at_home chosen
  drop_end size h = inv ∙ ap (with_status (view xs) (view xs).status)
      (visit_all _ _ _ k 13 h (λ j g. sym (map_beyond 0 (part TARGET 13 xs) j (omega (arith, part_length TARGET 13 xs (omega arith))))))
