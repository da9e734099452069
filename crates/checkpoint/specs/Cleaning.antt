-- The loop that cleans the logs at the desk and on machines that are up.
use Rattle.std.specs.Prelude.{◌≡◌, true, false, List, ℕ, ◌+◌, ◌<◌, ◌≤◌, length}
use Rattle.std.proofs.Common.{sym, ap, ◌∙◌}
use Rattle.lists.specs.Lists.{keep}
use Rattle.protocol.specs.Parts.{State, blank, up}
use Rattle.protocol.specs.Setters.{with_live}
use Rattle.words.specs.Part.{part, put}
use Rattle.head.specs.Head.{job_of, status_of, runs}
use Rattle.memory.specs.{Places.MEMORY, View.memory_view}
use Rattle.store.specs.{Places.{STORE, live_from}, View.view, ViewLaws.live_changed, Visits.{visited, visit_here, visit_hit, visit_miss, visit_all, live_beyond}}
use Rattle.checkpoint.specs.Parts.{cleaned, clean_up}

-- the logs below k are done
abbrev pub cleaned_to : (ℕ → ℕ) → State → ℕ → State
cleaned_to limit s k = with_live s (visited (λ c. up s (s.job.home c)) (λ c. cleaned limit (s.live c)) s.live k)

-- ---- on the store: xs at the start, ys as the loop finds it; q is where the log's chare is
module _ (xs : List ℕ) (limit : ℕ → ℕ) (k : ℕ) (ys : List ℕ) (inv : view ys ≡ cleaned_to limit (view xs) k) where
  module _ (q : ℕ) (is-q : q ≡ (job_of ys).home k) where
    up_same : up (view xs) ((view xs).job.home k) ≡ runs (status_of ys) q
    unfolding view up runs
    up_same = rw is-q (ap (λ t. up t (t.job.home k)) (sym inv))

    pub clean_miss : runs (status_of ys) q ≡ false → view ys ≡ cleaned_to limit (view xs) (k + 1)
    clean_miss e = inv ∙ ap (with_live (view xs)) (visit_miss _ _ _ k (up_same ∙ e))

    pub clean_hit : runs (status_of ys) q ≡ true → length ys ≡ STORE → k < 13 → (m : List ℕ) → length m ≡ MEMORY
        → memory_view m ≡ cleaned limit (memory_view (part (live_from k) MEMORY ys)) → view (put (live_from k) MEMORY ys m) ≡ cleaned_to limit (view xs) (k + 1)
    clean_hit e size h m long is_m =
        live_changed ys size k h m long (cleaned limit) is_m
        ∙ rw inv (ap (with_live (view xs)) (visit_hit _ _ _ k (up_same ∙ e) _ (ap (cleaned limit) (visit_here _ _ _ k))))

  pub clean_end : 13 ≤ k → view ys ≡ clean_up limit (view xs)
  unfolding clean_up cleaned blank keep
  clean_end h = inv ∙ ap (with_live (view xs)) (visit_all _ _ _ k 13 h (λ j g. rw (live_beyond xs j g)))
