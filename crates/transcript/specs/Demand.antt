-- The state that a reader holds: that of the lines that are finished, and, if it is quiet, demand 3 of it.
use Rattle.std.specs.Prelude.{◌≡◌, refl, true, cond, List, [], ◌∷◌, ◌++◌, ℕ, eqb}
use Rattle.std.proofs.Common.{ap, ◌∙◌}
use Rattle.lists.specs.Tests.{either}
use Rattle.protocol.specs.{Parts.{State, start}, Frames.Line, Lines.{newline, lines}, Step.{Outcome, step, play_all}}
use Rattle.protocol.specs.{History.{state_after, history_after}, Demand3.{Quiet, Agrees, Begins}}
use Rattle.protocol.proofs.{Recovery.Theorem.demand3}
use Rattle.transcript.specs.{Reading.{within, beginning, read_all, is_empty, finishes, end_state}}
use Rattle.transcript.specs.{Pieces.{continued, continued_nothing, continued_hit, continued_miss, kept_step, kept_empty, ends_state, goes_on}}

-- one crash-free run has the state's chares, sequences and unworked messages, and every earlier quiet moment's sequences begin them
pub record Recovered (s : State) (moment : List Line) : Type 0 where
  pub agrees : Agrees s (history_after moment)
  pub begins : (earlier since : List Line) → earlier ++ since ≡ moment → Quiet earlier → Begins earlier moment

-- the state after some lines, and, if the moment is quiet, demand 3
pub record After (moment : List Line) (s : State) : Type 0 where
  pub is : s ≡ state_after moment
  pub recovers : Quiet moment → Recovered s moment

pub after : (moment : List Line) (s : State) → s ≡ state_after moment → After moment s
after moment s e = rw e (record { is = refl; recovers = λ q. let h = demand3 moment q in record { agrees = h.agrees; begins = h.begins } })

-- the lines of an input that a newline has ended; l was read before
unfoldable pub ended : Line → List ℕ → List Line
ended l [] = []
ended l (b ∷ i) = cond (eqb b newline) (l ∷ ended [] i) (ended (l ++ (b ∷ [])) i)

unfoldable pub finished : List ℕ → List Line
finished i = ended [] i

-- ---- on the way
reads_ended : (s : State) (l : Line) (i : List ℕ) → (read_all (within s l) i).state ≡ play_all s (ended l i)
unfolding read_all ended play_all
reads_ended s l [] = unfold within in refl
reads_ended s l (b ∷ i) = either (eqb b newline)
    (λ e. ap (λ r. (read_all r i).state) (ends_state s l b e) ∙ rw e (reads_ended (step s l).state [] i))
    (λ e. ap (λ r. (read_all r i).state) (goes_on s l b e) ∙ rw e (reads_ended s (l ++ (b ∷ [])) i))

pub finished_state : (i : List ℕ) → (read_all beginning i).state ≡ state_after (finished i)
unfolding beginning finished state_after
finished_state i = reads_ended start [] i

-- ---- at the end, where there is room for it
module _ (room : ℕ) where
  ends_continued : (s : State) (l : Line) (i : List ℕ) → finishes room (read_all (within s l) i) ≡ true → end_state room (read_all (within s l) i) ≡ play_all s (continued l (lines i))
  unfolding read_all play_all
  ends_continued s l [] h =
      unfold finishes end_state continued lines in
      let g = rw (kept_empty s l) at h in
      rw (kept_empty s l)
      (either (is_empty l) (λ e. rw e (unfold within in refl)) (λ e. rw (e, rw e at g) (unfold within in ap (λ (o : Outcome). o.state) (kept_step s l))))
  ends_continued s l (b ∷ i) h = either (eqb b newline)
      (λ e. rw (ends_state s l b e, continued_hit l b i e) (ends_continued (step s l).state [] i (rw (ends_state s l b e) at h)))
      (λ e. rw (goes_on s l b e, continued_miss l b i e) (ends_continued s (l ++ (b ∷ [])) i (rw (goes_on s l b e) at h)))

  pub ended_state : (i : List ℕ) → finishes room (read_all beginning i) ≡ true → end_state room (read_all beginning i) ≡ state_after (lines i)
  unfolding beginning state_after
  ended_state i h = ends_continued start [] i h ∙ rw continued_nothing
