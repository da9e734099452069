-- What frame 16 leaves, before machines settle.
use Rattle.std.specs.Prelude.{◌≡◌, refl, ◌≢◌, List, ℕ, ◌<◌}
use Rattle.std.proofs.Common.{sym, ◌∙◌, arith}
use Rattle.lists.specs.Questions.{put_all, first_no, first_no_yes}
use Rattle.protocol.specs.{declared.Answer.TheVariants.{Shown, Refused}, Parts.{State, up}, Questions.{show_questions, is_chare}, Step.{Outcome, judged}}
use Rattle.frames.specs.Range.{between_true}
use Rattle.words.specs.Part.{part}
use Rattle.head.specs.{Head.{job_of, lost_of, status_of, runs, chare_asked}, HeadLaws.chares_top}
use Rattle.memory.specs.{Places.MEMORY, View.memory_view}
use Rattle.store.specs.{Places.live_from, View.{view, outcome}, ViewLaws.live_at, Framing.{refused, answered}}

unfoldable pub shown : State → ℕ → Outcome
shown s c = record { state = s; answer = Shown (s.live c).height (s.live c).state }

-- as the code goes: n is the number of the first "no"
module _ (xs : List ℕ) (c n : ℕ) (is-n : n ≡ first_no (chare_asked (job_of xs) (lost_of xs) (status_of xs) c)) where
  abbrev the_outcome : Outcome
  the_outcome = judged (view xs) (put_all (show_questions (view xs) c) (shown (view xs) c))

  asked : n ≡ first_no (show_questions (view xs) c)
  unfolding chare_asked show_questions is_chare view up runs
  asked = is-n

  pub show_refused : n ≢ 0 → outcome xs (Refused n) ≡ the_outcome
  show_refused h = (refused xs _ n asked _ h).gives

  module _ (z : n ≡ 0) where
    pub chare_in : c < 13
    unfolding chare_asked
    chare_in =
        let y = first_no_yes (chare_asked (job_of xs) (lost_of xs) (status_of xs) c) refl (sym is-n ∙ z) in
        let h = between_true 1 (job_of xs).chares c y.1.0 in
        omega (arith, chares_top xs)

    module _ (height state : ℕ) (is-height : height ≡ (memory_view (part (live_from c) MEMORY xs)).height) (is_state : state ≡ (memory_view (part (live_from c) MEMORY xs)).state) where
      pub show_done : outcome xs (Shown height state) ≡ the_outcome
      unfolding outcome shown show_questions
      show_done = (answered xs _ n asked refl xs (Shown height state) (shown (view xs) c) (λ m y. cc) z
          (rw (is-height, is_state, ← live_at xs c chare_in))).gives
