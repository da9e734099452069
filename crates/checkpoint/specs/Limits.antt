-- The loop that gathers the heights of a machine's chares: below them a log drops messages.
use Rattle.std.specs.Prelude.{◌≡◌, true, List, ℕ, ◌+◌, ◌<◌, ◌≤◌, length, set}
use Rattle.std.proofs.Common.{sym, ap, ◌∙◌}
use Rattle.lists.specs.Map.{upd}
use Rattle.arrays.specs.ArrayMap.{as_map, map_set}
use Rattle.protocol.specs.Parts.{State, Memory, blank, on}
use Rattle.logs.specs.CleanUp.{heights_on}
use Rattle.words.specs.Part.{part}
use Rattle.head.specs.Head.{job_of}
use Rattle.memory.specs.{Places.MEMORY, View.memory_view}
use Rattle.store.specs.{Places.live_from, View.view, ViewLaws.live_at, Visits.{chosen, visited, visit_hit, visit_all, live_beyond}}

-- the chares below k are done
abbrev pub limits_to : State → ℕ → ℕ → ℕ → ℕ
limits_to s p = visited (on s.job p) (λ c. (s.live c).height) (λ _. 0)

module _ (xs : List ℕ) (p k : ℕ) (r : List ℕ) (inv : as_map 0 r ≡ limits_to (view xs) p k) where
  pub limits_hit : on (job_of xs) p k ≡ true → k < 13 → length r ≡ 13 → (h : ℕ) → h ≡ (memory_view (part (live_from k) MEMORY xs)).height
      → as_map 0 (set r k h) ≡ limits_to (view xs) p (k + 1)
  unfolding view
  limits_hit e low long h q = map_set 0 r k h (rw long low) ∙ ap (upd k h) inv ∙ visit_hit _ _ _ k e h (q ∙ ap (λ (m : Memory). m.height) (sym (live_at xs k low)))

  pub limits_end : 13 ≤ k → as_map 0 r ≡ heights_on (view xs) p
  unfolding heights_on chosen blank
  limits_end h = inv ∙ visit_all _ _ _ k 13 h (λ i g. rw (live_beyond xs i g))
