-- The loop that prunes the chares of a machine and copies them.
use Rattle.std.specs.Prelude.{◌≡◌, true, false, List, ℕ, ◌+◌, ◌<◌, ◌≤◌, length}
use Rattle.std.proofs.Common.{sym, ap, ◌∙◌}
use Rattle.std.proofs.Math.Path.{fun_ext}
use Rattle.lists.specs.{Lists.keep, Map.upd_same, Tests.either}
use Rattle.protocol.specs.{Parts.{State, Memory, blank, on, at_home}, Setters.{with_live, with_copies}, Checkpoint.{pruned, prune, fix_copy}}
use Rattle.words.specs.Part.{part, put}
use Rattle.head.specs.Head.{job_of}
use Rattle.memory.specs.{Places.MEMORY, View.memory_view}
use Rattle.store.specs.{Places.{STORE, live_from, copy_from}, View.view, ViewLaws.{with_copy, live_changed, live_length, copied}}
use Rattle.store.specs.{Visits.{chosen, visited, visit_here, visit_hit, visit_miss, visit_all, live_beyond, copy_beyond}}
use Rattle.checkpoint.specs.Parts.{fixed}

abbrev done_to : State → ℕ → (ℕ → Memory) → ℕ → ℕ → Memory
done_to s p = visited (on s.job p) (λ c. pruned (s.live c))

-- the memories and the copies of the chares below k are done
abbrev pub fixed_to : State → ℕ → ℕ → State
fixed_to s p k = with_copies (with_live s (done_to s p s.live k)) s.held (done_to s p s.copy k) s.notes

pub both : (s : State) {l m c d : ℕ → Memory} → l ≡ m → c ≡ d → with_copies (with_live s l) s.held c s.notes ≡ with_copies (with_live s m) s.held d s.notes
both s e f = rw (e, f)

-- ---- on the store: xs at the start, ys as the loop finds it
module _ (xs : List ℕ) (p k : ℕ) (ys : List ℕ) (inv : view ys ≡ fixed_to (view xs) p k) where
  here_is : on (view xs).job p k ≡ on (job_of ys) p k
  unfolding view
  here_is = ap (λ t. on t.job p k) (sym inv)

  pub fix_miss : on (job_of ys) p k ≡ false → view ys ≡ fixed_to (view xs) p (k + 1)
  fix_miss e = inv ∙ both (view xs) (visit_miss _ _ _ k (here_is ∙ e)) (visit_miss _ _ _ k (here_is ∙ e))

  pub fix_hit : on (job_of ys) p k ≡ true → length ys ≡ STORE → k < 13 → (m zs : List ℕ) → length m ≡ MEMORY → memory_view m ≡ pruned (memory_view (part (live_from k) MEMORY ys))
      → zs ≡ put (copy_from k) MEMORY (put (live_from k) MEMORY ys m) (part (live_from k) MEMORY (put (live_from k) MEMORY ys m)) → view zs ≡ fixed_to (view xs) p (k + 1)
  fix_hit e size h m zs long is_m is-z =
      let was = ap pruned (visit_here (on (view xs).job p) (λ c. pruned ((view xs).live c)) (view xs).live k) in
      ap view is-z
      ∙ copied (put (live_from k) MEMORY ys m) (live_length ys size k h m long) k h
      ∙ ap (λ u. with_copy u k (u.live k)) (live_changed ys size k h m long pruned is_m)
      ∙ rw inv (both (view xs) (visit_hit _ _ _ k (here_is ∙ e) _ was) (visit_hit _ _ _ k (here_is ∙ e) _ (upd_same k _ _ ∙ was)))

  pub fix_end : 13 ≤ k → view ys ≡ fixed (view xs) p
  unfolding fixed prune fix_copy at_home chosen pruned blank keep
  fix_end h = inv ∙ both (view xs)
      (visit_all _ _ _ k 13 h (λ i g. rw (live_beyond xs i g)))
      (visit_all _ _ _ k 13 h (λ i g. rw (live_beyond xs i g, copy_beyond xs i g)) ∙ fun_ext (λ c. either (on (view xs).job p c) (λ e. rw e) (λ e. rw e)))
