-- What the first line of an input gets, by the frame that it is: before any job nothing but a job is accepted.
use Rattle.std.specs.Prelude.{Option, None, Some, ◌≡◌, refl, cond, List, [], ◌∷◌, ◌++◌, ℕ, zero, suc, ◌+◌, ◌<◌, length, take, drop}
use Rattle.std.proofs.Common.{sym, ap, ◌∙◌, append_assoc, arith, length-append}
use Rattle.lists.specs.{Tests.either, Questions.put_all}
use Rattle.protocol.specs.{declared.Answer.TheVariants.Refused, Parts.{State, start, no_job, job_machines}, Restart.{settle_machine, settle_all, settle, is_done}}
use Rattle.protocol.specs.{Frames.{Line, frame}, Lines.{newline, lines, line}, Job.{job_in_range, job_of, begin}, Step.{step, step_frame, play, outcome, accept, judged}}
use Rattle.protocol.specs.Questions.{questions, job_questions, inject_questions, deliver_questions, work_questions, checkpoint_questions, crash_questions, restart_questions, show_questions, withdraw_questions}
use Rattle.frames.specs.{Decode.decoded, Read.{read_as, meaning}, ReadLaws.frame_meaning, LongLine.cut_line, declared.Frame.Frame}
use Rattle.frames.specs.{declared.Frame.TheVariants.{Job, Inject, Deliver, Work, Checkpoint, Crash, Restart, Show, Withdraw}}
use Rattle.arrays.specs.Copies.{Wrote}
use Rattle.lines.specs.LineEnd.{line_end, line_part, first_line, first_cut}
use Rattle.crashsets.specs.CrashSets.{counts, report, reported, of_first, survivors}

-- "its number alone"
abbrev pub number : ℕ → List ℕ
number n = line (Refused n) ++ (newline ∷ [])

unfoldable pub said : Line → Option Frame → List ℕ
said l None = number 1
said l (Some Job) = cond (job_in_range (decoded l)) (counts (job_of (decoded l))) (number 3)
said l (Some (Inject c v h)) = number 2
said l (Some (Deliver k a r n)) = number 2
said l (Some (Work c)) = number 2
said l (Some (Checkpoint p)) = number 2
said l (Some (Crash p)) = number 2
said l (Some (Restart p)) = number 2
said l (Some (Show c)) = number 2
said l (Some (Withdraw c)) = number 2

-- settling leaves the job
settle_job : (s : State) (l : List ℕ) → (settle_all s l).job ≡ s.job
unfolding settle_all settle_machine
settle_job s [] = refl
settle_job s (p ∷ l) = settle_job (settle_machine s p) l ∙ either (is_done s p) (λ e. rw e) (λ e. rw e)

module _ (l : Line) where
  begun : (settle (begin (decoded l))).job ≡ job_of (decoded l)
  unfolding settle begin
  begun = settle_job (begin (decoded l)) (job_machines (job_of (decoded l)))

  of_frame : (f : Option Frame) → reported (step_frame start (meaning l f)) ≡ said l f
  unfolding said meaning step_frame play judged put_all questions job_questions inject_questions deliver_questions work_questions checkpoint_questions crash_questions restart_questions show_questions withdraw_questions reported report start no_job
  of_frame None = refl
  of_frame (Some Job) = either (job_in_range (decoded l)) (λ e. rw e (unfold outcome accept in ap counts begun)) (λ e. rw e)
  of_frame (Some (Inject c v h)) = refl
  of_frame (Some (Deliver k a r n)) = refl
  of_frame (Some (Work c)) = refl
  of_frame (Some (Checkpoint p)) = refl
  of_frame (Some (Crash p)) = refl
  of_frame (Some (Restart p)) = refl
  of_frame (Some (Show c)) = refl
  of_frame (Some (Withdraw c)) = refl

  pub first_said : (f : Option Frame) → f ≡ read_as (frame l) → reported (step start l) ≡ said l f
  unfolding step
  first_said f e = ap (λ o. reported (step_frame start o)) (frame_meaning l ∙ ap (meaning l) (sym e)) ∙ of_frame f

-- a frame that is no job
pub no_job_said : (l : Line) (f : Frame) → (f ≡ Job → ⊥) → said l (Some f) ≡ number 2
unfolding said
no_job_said l Job j = absurd (j refl)
no_job_said l (Inject c v h) j = refl
no_job_said l (Deliver k a r n) j = refl
no_job_said l (Work c) j = refl
no_job_said l (Checkpoint p) j = refl
no_job_said l (Crash p) j = refl
no_job_said l (Restart p) j = refl
no_job_said l (Show c) j = refl
no_job_said l (Withdraw c) j = refl

-- a number alone, as `print` writes it
pub wrote_number : (n w : ℕ) (room out : List ℕ) → w ≡ length (line (Refused n)) + 1 → out ≡ line (Refused n) ++ (newline ∷ drop w room) → Wrote room (number n) w out
wrote_number n w room out count bytes = record {
  count = omega (arith, length-append (line (Refused n)) (newline ∷ []));
  bytes = bytes ∙ sym (append_assoc (line (Refused n)) (newline ∷ []) (drop w room));
}

-- ---- an input: empty, or what its first line gets
pub empty_input : (input room : List ℕ) → length input ≡ 0 → Wrote room (survivors input) 0 room
unfolding survivors of_first lines
empty_input [] room e = record { count = refl; bytes = refl }
empty_input (b ∷ i) room e = absurd (omega arith)

first_gets : (b : ℕ) (i : List ℕ) → survivors (b ∷ i) ≡ reported (step start (line_part (b ∷ i)))
unfolding survivors of_first
first_gets b i = rw (first_line b i).1

pub some_input : (input : List ℕ) → (length input ≡ 0 → ⊥) → (end : ℕ) → end ≡ line_end input → (room out : List ℕ) (w : ℕ) → Wrote room (reported (step start (take end input))) w out → Wrote room (survivors input) w out
some_input [] n end e room out w o = absurd (n refl)
some_input (b ∷ i) n end e room out w o = rw (first_gets b i, ← e) o

-- The first 2,047 bytes are enough, and so is any greater part: a program may stop reading there.
pub cut_input : (n : ℕ) (input : List ℕ) → 2046 < n → survivors (take n input) ≡ survivors input
cut_input zero input h = absurd (omega arith)
cut_input (suc n) [] h = refl
cut_input (suc n) (b ∷ i) h =
    first_gets b (take n i) ∙ ap (λ l. reported (step start l)) (first_cut (suc n) (b ∷ i)) ∙ ap reported (cut_line start (suc n) (line_part (b ∷ i)) h) ∙ sym (first_gets b i)
