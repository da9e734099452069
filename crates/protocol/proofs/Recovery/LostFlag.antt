-- The flag that says that the run is lost is set exactly when FF is among the answers of the list.
use Rattle.std.specs.Prelude.{◌≡◌, refl, Bool, true, false, ◌⊎◌, ◌≢◌, List, [], ◌∷◌, ℕ}
use Rattle.std.proofs.Common.{sym, ap, ◌∙◌, subst, inl, inr, arith}
use mathlib.Core.List.Memᴰ
use mathlib.Core.List.Memᴰ.{head as here}
use mathlib.Core.List.Memᴰ.{tail as there}
use Rattle.std.proofs.Math.Option.{Option, some, none}
use Rattle.lists.specs.Tests.{true_not_false, not_true}
use Rattle.lists.specs.Lists.{◌∈◌}
use Rattle.lists.specs.Questions.{Result, ok, refuse, put_all, Yes, put_ok}
use Rattle.protocol.specs.declared.Entry.{Entry}
use Rattle.protocol.specs.declared.Packet.{Packet}
use Rattle.protocol.specs.declared.Rule.{Rule}
use Rattle.protocol.specs.declared.Rule.TheVariants.{Other}
use Rattle.protocol.specs.declared.Answer.TheVariants.{Lost}
use Rattle.protocol.specs.Parts.{State, start}
use Rattle.protocol.specs.Working.{worked_only, receivers_of, value_out, hops_out, work_next}
use Rattle.protocol.specs.Packets.{deliver}
use Rattle.protocol.specs.Checkpoint as checkpoints
use Rattle.protocol.specs.Crash as crashes
use Rattle.protocol.specs.Restart as restarts
use Rattle.protocol.specs.Withdraw as withdrawals
use Rattle.protocol.specs.Frames as frames
use Rattle.protocol.specs.Frames.{Line, Frame, frame}
use Rattle.protocol.specs.Job.{begin}
use Rattle.protocol.specs.Questions as questions
use Rattle.protocol.specs.Step.{Outcome, accept_by, accept, crash_outcome, deliver_outcome, work_outcome, outcome, judged, play, step_frame, step, play_all, answers_from}
use Rattle.protocol.specs.History.{state_after, answers_after}
use Rattle.protocol.proofs.Recovery.Along.{settled}
use Rattle.protocol.proofs.Recovery.Frames.Calm.{calm_send, calm_send_all, calm_deliver}

-- a frame leaves the flag and does not print FF, or sets it and prints FF
pub record Leaves (s : State) (o : Outcome) : Type 0 where
  pub flag : o.state.lost ≡ s.lost
  pub other : o.answer ≢ Lost

pub record Loses (o : Outcome) : Type 0 where
  pub flag : o.state.lost ≡ true
  pub ff : o.answer ≡ Lost

abbrev Flagged : State → Outcome → Type 0
Flagged s o = Leaves s o ⊎ Loses o

-- ---- frame by frame
accepted_by : (r : Rule) (s t : State) → t.lost ≡ s.lost → Flagged s (accept_by r t)
accepted_by r s t e = inl (record { flag = ap (λ s. s.lost) (settled t) ∙ e; other = λ q. absurd (let z : ◌≡◌ {A = ℕ} 0 1 = cc in omega arith) })

accepted : (s t : State) → t.lost ≡ s.lost → Flagged s (accept t)
unfolding accept
accepted s t e = accepted_by Other s t e

delivered : (s : State) (k a r n : ℕ) (o : Option Packet) → Flagged s (deliver_outcome s k a r n o)
unfolding deliver_outcome
delivered s k a r n none = accepted s s refl
delivered s k a r n (some x) = accepted_by _ s (deliver s k a r n x) (calm_deliver s k a r n x).lost

worked : (s : State) (c : ℕ) (o : Option Entry) → Flagged s (work_outcome s c o)
unfolding work_outcome work_next worked_only
worked s c none = accepted s s refl
worked s c (some e) = accepted s _ (calm_send_all (worked_only s c e) c (receivers_of s c e) (value_out s c e) (hops_out e)).lost

crashed : (s : State) (p : ℕ) (b : Bool) → Flagged s (crash_outcome s p b)
unfolding crash_outcome crashes.crash
crashed s p true = accepted s (crashes.crash s p) refl
crashed s p false = inr (record { flag = refl; ff = refl })

-- question 4 is put to a job too, so nothing is forgotten
all_yes : (s : State) (f : Frame) → Yes (questions.questions s f) → Flagged s (outcome s f)
unfolding outcome questions.questions questions.job_questions begin checkpoints.checkpoint checkpoints.clean_logs checkpoints.fix_copy checkpoints.prune restarts.restart restarts.restore withdrawals.withdraw withdrawals.take_back
all_yes s (frames.job b) y = accepted s (begin b) (sym (not_true s.lost y.1.1.0))
all_yes s (frames.inject c value hops) y = accepted s _ (calm_send s 0 c value hops).lost
all_yes s (frames.deliver k a r n) y = delivered s k a r n _
all_yes s (frames.work c) y = worked s c _
all_yes s (frames.checkpoint p) y = accepted s _ refl
all_yes s (frames.crash p) y = crashed s p _
all_yes s (frames.restart p) y = accepted s _ refl
all_yes s (frames.show c) y = inl (record { flag = ap (λ s. s.lost) (settled s); other = λ q. absurd (let z : ◌≡◌ {A = ℕ} 0 1 = cc in omega arith) })
all_yes s (frames.withdraw c) y = accepted s _ refl

left : (s : State) (f : Frame) (r : Result Outcome) → put_all (questions.questions s f) (outcome s f) ≡ r → Flagged s (judged s r)
unfolding judged
left s f (refuse n) e = inl (record { flag = refl; other = λ q. absurd (let z : ◌≡◌ {A = ℕ} 0 1 = cc in omega arith) })
left s f (ok o) e = let (y, q) = put_ok (questions.questions s f) (outcome s f) o e in subst (Flagged s) q (all_yes s f y)

read : (s : State) (o : Option Frame) → Flagged s (step_frame s o)
unfolding step_frame play
read s none = inl (record { flag = refl; other = λ q. absurd (let z : ◌≡◌ {A = ℕ} 0 1 = cc in omega arith) })
read s (some f) = left s f _ refl

line_flag : (s : State) (l : Line) → Flagged s (step s l)
unfolding step
line_flag s l = read s (frame l)

-- ---- a list of lines, from any state
still : (s : State) (ls : List Line) → s.lost ≡ true → (play_all s ls).lost ≡ true
unfolding play_all
still s [] e = e
still s (l ∷ ls) e = still (step s l).state ls (elim (line_flag s l) [ inl k ↦ k.flag ∙ e | inr k ↦ k.flag ])

printed_sets : (s : State) (ls : List Line) → Lost ∈ answers_from s ls → (play_all s ls).lost ≡ true
unfolding play_all answers_from
printed_sets s [] i = absurd (Memᴰ.not-nil i)
printed_sets s (l ∷ ls) i = elim (Memᴰ.cases_cons i) [
  | inl e ↦ still (step s l).state ls (elim (line_flag s l) [ inl k ↦ absurd (k.other (sym e)) | inr k ↦ k.flag ])
  | inr j ↦ printed_sets (step s l).state ls j
]

set_printed : (s : State) (ls : List Line) → (play_all s ls).lost ≡ true → (s.lost ≡ true) ⊎ (Lost ∈ answers_from s ls)
unfolding play_all answers_from
set_printed s [] e = inl e
set_printed s (l ∷ ls) e = elim (set_printed (step s l).state ls e) [
  | inl f ↦ elim (line_flag s l) [ inl k ↦ inl (sym k.flag ∙ f) | inr k ↦ inr (here (sym k.ff)) ]
  | inr j ↦ inr (there j)
]

-- ---- a list begun before any job
pub record Exactly (moment : List Line) : Type 0 where
  pub printed : (state_after moment).lost ≡ true → Lost ∈ answers_after moment
  pub set : Lost ∈ answers_after moment → (state_after moment).lost ≡ true

pub lost_flag : (moment : List Line) → Exactly moment
unfolding state_after answers_after start
lost_flag moment = record {
  printed = λ e. elim (set_printed start moment e) [ inl f ↦ true_not_false f refl | inr i ↦ i ];
  set = printed_sets start moment;
}
