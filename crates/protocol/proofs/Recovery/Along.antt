-- What is carried along a list of lines, and what every frame keeps.
use Rattle.std.specs.Prelude.{◌≡◌, Bool, true, false, ◌⊎◌, ℕ}
use Rattle.std.proofs.Math.Path.{refl, subst}
use Rattle.std.proofs.Common.{ap, ◌∙◌}
use Rattle.std.proofs.Math.Logic.{inl, inr}
use mathlib.Core.List.{List, [], ◌∷◌}
use Rattle.std.proofs.Math.Option.{Option, some, none}
use Rattle.lists.specs.Tests.{either}
use Rattle.lists.specs.Questions.{Result, ok, refuse, put_all, Yes, put_ok}
use Rattle.protocol.specs.declared.Entry.{Entry}
use Rattle.protocol.specs.declared.Packet.{Packet}
use Rattle.protocol.specs.Parts.{State}
use Rattle.protocol.specs.Setters.{with_lost, with_status}
use Rattle.protocol.specs.Restart.{is_done, settle_machine, settle_all, settle}
use Rattle.protocol.specs.Frames.{Line, Frame, job, inject, deliver, work, checkpoint, crash, restart, show, withdraw, frame}
use Rattle.protocol.specs.Questions.{questions}
use Rattle.protocol.specs.Step.{Outcome, accept, crash_outcome, deliver_outcome, work_outcome, outcome, judged, play, step_frame, step, play_all}
use Rattle.protocol.specs.History.{is_accepted}

-- what an accepted frame makes of it; s is the state before the frame
module _ {H : Type 0} (change : State → H → Frame → H) where
  unfoldable pub after_frame : State → H → Option Frame → Bool → H
  after_frame s h none a = h
  after_frame s h (some f) true = change s h f
  after_frame s h (some f) false = h

  unfoldable pub along : State → H → List Line → H
  along s h [] = h
  along s h (l ∷ ls) = along (step s l).state (after_frame s h (frame l) (is_accepted (step s l).answer)) ls

-- a frame that is not refused is accepted, or a crash without cover
abbrev Taken : State → Outcome → Type 0
Taken s o = (is_accepted o.answer ≡ true) ⊎ ((is_accepted o.answer ≡ false) × (o.state ≡ with_lost s true))

taken_packet : (s : State) (k a r n : ℕ) (o : Option Packet) → Taken s (deliver_outcome s k a r n o)
unfolding deliver_outcome accept is_accepted
taken_packet s k a r n none = inl refl
taken_packet s k a r n (some p) = inl refl

taken_work : (s : State) (c : ℕ) (o : Option Entry) → Taken s (work_outcome s c o)
unfolding work_outcome accept is_accepted
taken_work s c none = inl refl
taken_work s c (some e) = inl refl

taken_crash : (s : State) (p : ℕ) (b : Bool) → Taken s (crash_outcome s p b)
unfolding crash_outcome accept is_accepted
taken_crash s p true = inl refl
taken_crash s p false = inr (refl, refl)

taken : (s : State) (f : Frame) → Taken s (outcome s f)
unfolding outcome accept is_accepted
taken s (job b) = inl refl
taken s (inject c value hops) = inl refl
taken s (deliver k a r n) = taken_packet s k a r n _
taken s (work c) = taken_work s c _
taken s (checkpoint p) = inl refl
taken s (crash p) = taken_crash s p _
taken s (restart p) = inl refl
taken s (show c) = inl refl
taken s (withdraw c) = inl refl

-- what every accepted frame keeps, and the lost flag, is kept along a list
module _ {H : Type 0} (change : State → H → Frame → H) (P : State → H → Type 0)
    (frames : (s : State) (h : H) (f : Frame) → P s h → Yes (questions s f) → is_accepted (outcome s f).answer ≡ true → P (outcome s f).state (change s h f))
    (lost : (s : State) (h : H) → P s h → P (with_lost s true) h) where
  keep_taken : (s : State) (h : H) → P s h → (f : Frame) → Yes (questions s f) → P (outcome s f).state (after_frame change s h (some f) (is_accepted (outcome s f).answer))
  unfolding after_frame
  keep_taken s h k f y = elim (taken s f) [ inl a ↦ rw a (frames s h f k y a) | inr (a, e) ↦ rw (a, e) (lost s h k) ]

  keep_judged : (s : State) (h : H) → P s h → (f : Frame) (r : Result Outcome) → put_all (questions s f) (outcome s f) ≡ r
      → P (judged s r).state (after_frame change s h (some f) (is_accepted (judged s r).answer))
  unfolding judged after_frame is_accepted
  keep_judged s h k f (refuse n) e = k
  keep_judged s h k f (ok o) e =
      let (y, q) = put_ok (questions s f) (outcome s f) o e in
      subst (λ o. P o.state (after_frame change s h (some f) (is_accepted o.answer))) q (keep_taken s h k f y)

  keep_read : (s : State) (h : H) → P s h → (o : Option Frame) → P (step_frame s o).state (after_frame change s h o (is_accepted (step_frame s o).answer))
  unfolding step_frame after_frame play
  keep_read s h k none = k
  keep_read s h k (some f) = keep_judged s h k f (put_all (questions s f) (outcome s f)) refl

  pub keep_along : (s : State) (h : H) (ls : List Line) → P s h → P (play_all s ls) (along change s h ls)
  unfolding play_all along step
  keep_along s h [] k = k
  keep_along s h (l ∷ ls) k = keep_along (step s l).state _ ls (keep_read s h k (frame l))

-- who settles changes statuses and targets, and nothing else
settled_machine : (s : State) (p : ℕ) → settle_machine s p ≡ with_status s (settle_machine s p).status (settle_machine s p).target
unfolding settle_machine
settled_machine s p = either (is_done s p) (λ e. rw e) (λ e. rw e)

settled_all : (s : State) (l : List ℕ) → settle_all s l ≡ with_status s (settle_all s l).status (settle_all s l).target
unfolding settle_all
settled_all s [] = refl
settled_all s (p ∷ l) =
    let t = settle_machine s p in
    settled_all t l ∙ ap (λ u. with_status u (settle_all t l).status (settle_all t l).target) (settled_machine s p)

pub settled : (s : State) → settle s ≡ with_status s (settle s).status (settle s).target
unfolding settle
settled s = settled_all s _
