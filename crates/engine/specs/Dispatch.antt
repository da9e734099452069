-- The frame that the reader answers decides the step: what its crate gives, and then what settles.
use Rattle.std.specs.Prelude.{None, Some, ◌≡◌, refl, Bool, true, false, ℕ}
use Rattle.std.proofs.Common.{sym, ap, ◌∙◌}
use Rattle.std.proofs.Math.Option.{Option, some, none}
use Rattle.lists.specs.Questions.{put_all}
use Rattle.protocol.specs.{declared.Rule.TheVariants.Other, declared.Answer.TheVariants.Refused, Parts.State, Frames.{Line, frame}}
use Rattle.protocol.specs.{Job.begin, Sending.send, Working.next_entry, Checkpoint.checkpoint, Crash.has_cover, Restart.restart, Withdraw.withdraw}
use Rattle.protocol.specs.Questions.{questions, job_questions, inject_questions, deliver_questions, on_wire, work_questions}
use Rattle.protocol.specs.Questions.{checkpoint_questions, crash_questions, restart_questions, show_questions, withdraw_questions}
use Rattle.protocol.specs.{Step.{Outcome, accept, crash_outcome, deliver_outcome, work_outcome, outcome, judged, play, step_frame, step}}
use Rattle.frames.specs.{Decode.decoded, Read.{read_as, meaning}, ReadLaws.frame_meaning, declared.Frame.Frame}
use Rattle.frames.specs.{declared.Frame.TheVariants.{Job, Inject, Deliver, Work, Checkpoint, Crash, Restart, Show, Withdraw}}
use Rattle.store.specs.View.{done, tried}
use Rattle.settle.specs.Shown.{shown}
use Rattle.deliver.specs.Frame.{delivered}
use Rattle.sends.specs.Works.{worked_state}
use Rattle.crash.specs.Whole.{crash_tried}
use Rattle.engine.specs.Play.{settles, settle_after, judged_settles}

-- a frame, before machines settle
unfoldable pub acted : State → Line → Frame → Outcome
acted s l Job = tried s (job_questions s (decoded l)) (begin (decoded l))
acted s l (Inject c v h) = tried s (inject_questions s c v h) (send s 0 c v h)
acted s l (Deliver k a r n) = judged s (put_all (deliver_questions s k a r n) (delivered s k a r n (on_wire s k a r n)))
acted s l (Work c) = tried s (work_questions s c) (worked_state s c (next_entry (s.live c)))
acted s l (Checkpoint p) = tried s (checkpoint_questions s p) (checkpoint s p)
acted s l (Crash p) = judged s (put_all (crash_questions s p) (crash_tried s p (has_cover s p)))
acted s l (Restart p) = tried s (restart_questions s p) (restart s p)
acted s l (Show c) = judged s (put_all (show_questions s c) (shown s c))
acted s l (Withdraw c) = tried s (withdraw_questions s c) (withdraw s c)

-- whether or not there is something to act on
either_settles : {X : Type 0} (x t : Option X → Outcome) → x none ≡ settle_after (t none) → ((a : X) → x (some a) ≡ settle_after (t (some a))) → (o : Option X) → x o ≡ settle_after (t o)
either_settles x t p q none = p
either_settles x t p q (some a) = q a

module _ (s : State) where
  crash_settles : (p : ℕ) (b : Bool) → crash_outcome s p b ≡ settle_after (crash_tried s p b)
  unfolding crash_outcome accept crash_tried settle_after settles
  crash_settles p true = refl
  crash_settles p false = refl

  -- the definitions' step is the frame's act, and then what settles
  acted_settles : (l : Line) (f : Frame) → step_frame s (meaning l (Some f)) ≡ settle_after (acted s l f)
  unfolding step_frame meaning play outcome deliver_outcome work_outcome questions accept acted tried delivered worked_state shown settle_after settles
  acted_settles l Job = judged_settles s _ _ _ refl
  acted_settles l (Inject c v h) = judged_settles s _ _ _ refl
  acted_settles l (Deliver k a r n) = judged_settles s _ _ _ (either_settles (deliver_outcome s k a r n) (delivered s k a r n) refl (λ p. refl) (on_wire s k a r n))
  acted_settles l (Work c) = judged_settles s _ _ _ (either_settles (work_outcome s c) (λ o. done Other (worked_state s c o)) refl (λ e. refl) (next_entry (s.live c)))
  acted_settles l (Checkpoint p) = judged_settles s _ _ _ refl
  acted_settles l (Crash p) = judged_settles s _ _ _ (crash_settles p (has_cover s p))
  acted_settles l (Restart p) = judged_settles s _ _ _ refl
  acted_settles l (Show c) = judged_settles s _ _ _ refl
  acted_settles l (Withdraw c) = judged_settles s _ _ _ refl

  -- no frame
  pub garbled : (l : Line) → None ≡ read_as (frame l) → step s l ≡ record { state = s; answer = Refused 1 }
  unfolding step step_frame meaning
  garbled l e = ap (step_frame s) (frame_meaning l ∙ ap (meaning l) (sym e))

  pub steps : (l : Line) (f : Frame) → Some f ≡ read_as (frame l) → step s l ≡ settle_after (acted s l f)
  unfolding step
  steps l f e = ap (step_frame s) (frame_meaning l ∙ ap (meaning l) (sym e)) ∙ acted_settles l f
