-- A job begun in place.
use Rattle.std.specs.Prelude.{◌≡◌, true, List, ℕ, get_or, replicate}
use Rattle.std.proofs.Common.{ap, ◌∙◌}
use Rattle.std.proofs.lemmas.List.{length-replicate}
use Rattle.protocol.specs.{Job.{chares_of, job_in_range, has_chare, new_memory, first_memory, begin}, Parts.{blank, start}}
use Rattle.words.specs.{Part.put, Zeros.zeros}
use Rattle.head.specs.Head.{HEAD}
use Rattle.store.specs.{Places.STORE, View.view, ViewLaws.whole_head_put}
use Rattle.opening.specs.{Words.Written, HeadSays.head_says, States.{named, all_started}, Zeros.zeros_start}

-- xs is cleared, then ys is its head, then n chares start, which gives zs
pub begins : (b : List ℕ) → job_in_range b ≡ true → (n : ℕ) → n ≡ get_or b 2 0 → (k : ℕ) (xs : List ℕ) → xs ≡ replicate k 0 → k ≡ STORE
    → (ys : List ℕ) → Written b ys → (zs : List ℕ) → view zs ≡ all_started (view (put 0 HEAD xs ys)) n → view zs ≡ begin b
unfolding all_started named begin first_memory has_chare chares_of new_memory blank start
begins b ok n is-n k xs z e ys w zs q =
    let says = head_says b ok ys w in
    let zero : xs ≡ zeros STORE = z ∙ ap zeros e in
    q
    ∙ rw (whole_head_put xs (rw zero (length-replicate {A = ℕ} STORE 0)) ys w.size, zero, zeros_start)
    (rw (says.job, says.lost, says.status, says.held, says.target, is-n))
