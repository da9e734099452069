-- After every list of lines no machine is done catching up and still called so: settling a reached state changes nothing.
use Rattle.std.specs.Prelude.{◌≡◌, refl, Bool, true, false, ◌&&◌, ◌≢◌, List, [], ◌∷◌, ℕ}
use Rattle.std.proofs.Common.{sym, ap, ◌∙◌}
use Rattle.std.proofs.Math.Path.{subst}
use Rattle.std.proofs.Math.Logic.{inl, inr}
use mathlib.Core.List.Memᴰ
use mathlib.Core.List.Memᴰ.{head as here}
use mathlib.Core.List.Memᴰ.{tail as there}
use Rattle.std.proofs.Math.Option.{Option, some, none}
use Rattle.lists.specs.Tests.{either, eq?, true_not_false}
use Rattle.lists.specs.Map.{upd, upd_same, upd_other}
use Rattle.lists.specs.Lists.{All, all_nil, allb_ext, keep, keep_mem}
use Rattle.lists.specs.Counting.{counting}
use Rattle.protocol.specs.declared.Entry.{Entry}
use Rattle.protocol.specs.declared.Packet.{Packet}
use Rattle.protocol.specs.declared.Status.TheVariants.{Up}
use Rattle.protocol.specs.Parts.{State, start, no_job, job_machines, every_chare, on, is_catching_up, at_home}
use Rattle.protocol.specs.Setters.{with_lost, with_status}
use Rattle.protocol.specs.Restart.{has_caught_up, is_done, settle_machine, settle_all, settle}
use Rattle.protocol.specs.Frames as frames
use Rattle.protocol.specs.Frames.{Line, Frame}
use Rattle.protocol.specs.Step.{accept, crash_outcome, deliver_outcome, work_outcome, outcome}
use Rattle.protocol.specs.History.{is_accepted, state_after}
use Rattle.protocol.proofs.Recovery.Laws.AtHome.{at_home_off}
use Rattle.protocol.proofs.Recovery.Invariant.Homes.{on_home}
use Rattle.protocol.proofs.Recovery.Along.{keep_along, settled}

-- no machine of the job is done and still catching up
abbrev pub Settled : State → Type 0
Settled s = All (λ p. is_done s p ≡ false) (job_machines s.job)

-- ---- such a state stays
settle_nothing : (s : State) (l : List ℕ) → All (λ p. is_done s p ≡ false) l → settle_all s l ≡ s
unfolding settle_all settle_machine
settle_nothing s [] h = refl
settle_nothing s (p ∷ l) h = rw (h p (here refl)) (settle_nothing s l (λ q i. h q (there i)))

pub settled_same : (s : State) → Settled s → settle s ≡ s
unfolding settle
settled_same s h = settle_nothing s (job_machines s.job) h

-- ---- settling leaves one
module _ (s : State) (q : ℕ) where
  -- what a machine that is done leaves
  abbrev quiet : State
  quiet = with_status s (upd q Up s.status) (at_home s.job q (λ c t. 0) s.target)

  quiet_here : is_done quiet q ≡ false
  unfolding is_done is_catching_up
  quiet_here = rw (upd_same q Up s.status)

  quiet_there : (p : ℕ) → p ≢ q → is_done quiet p ≡ is_done s p
  unfolding is_done has_caught_up
  quiet_there p d = rw (upd_other q Up s.status p d)
      (ap (is_catching_up (s.status p) &&◌) (allb_ext (has_caught_up quiet) (has_caught_up s) (keep (on s.job p) every_chare)
      (λ c i. rw (at_home_off s.job q (λ c t. 0) s.target c (λ e. d (sym (on_home s.job p c (keep_mem (on s.job p) every_chare i).1) ∙ e))))))

  done_no_more : is_done (settle_machine s q) q ≡ false
  unfolding settle_machine
  done_no_more = either (is_done s q) (λ e. rw e quiet_here) (λ e. rw e e)

  none_new : (p : ℕ) → is_done s p ≡ false → is_done (settle_machine s q) p ≡ false
  unfolding settle_machine
  none_new p h = either (is_done s q)
      (λ e. rw e (elim (eq? p q) [ inl z ↦ subst (λ p. is_done quiet p ≡ false) (sym z) quiet_here | inr d ↦ quiet_there p d ∙ h ]))
      (λ e. rw e h)

stays_so : (s : State) (l : List ℕ) (p : ℕ) → is_done s p ≡ false → is_done (settle_all s l) p ≡ false
unfolding settle_all
stays_so s [] p h = h
stays_so s (q ∷ l) p h = stays_so (settle_machine s q) l p (none_new s q p h)

none_left : (s : State) (l : List ℕ) → All (λ p. is_done (settle_all s l) p ≡ false) l
unfolding settle_all
none_left s [] p i = absurd (Memᴰ.not-nil i)
none_left s (q ∷ l) p i = elim (Memᴰ.cases_cons i) [
  | inl e ↦ stays_so (settle_machine s q) l p (subst (λ p. is_done (settle_machine s q) p ≡ false) (sym e) (done_no_more s q))
  | inr j ↦ none_left (settle_machine s q) l p j
]

settle_settles : (s : State) → Settled (settle s)
unfolding settle
settle_settles s = subst (λ j. All (λ p. is_done (settle s) p ≡ false) (job_machines j)) (sym (ap (λ t. t.job) (settled s))) (none_left s (job_machines s.job))

-- ---- every accepted frame ends so
crash_settles : (s : State) (p : ℕ) (b : Bool) → is_accepted (crash_outcome s p b).answer ≡ true → Settled (crash_outcome s p b).state
unfolding crash_outcome accept is_accepted
crash_settles s p true a = settle_settles _
crash_settles s p false a = true_not_false a refl

deliver_settles : (s : State) (k a r n : ℕ) (o : Option Packet) → Settled (deliver_outcome s k a r n o).state
unfolding deliver_outcome accept
deliver_settles s k a r n none = settle_settles _
deliver_settles s k a r n (some x) = settle_settles _

work_settles : (s : State) (c : ℕ) (o : Option Entry) → Settled (work_outcome s c o).state
unfolding work_outcome accept
work_settles s c none = settle_settles _
work_settles s c (some e) = settle_settles _

frame_settles : (s : State) (f : Frame) → is_accepted (outcome s f).answer ≡ true → Settled (outcome s f).state
unfolding outcome accept
frame_settles s (frames.job b) a = settle_settles _
frame_settles s (frames.inject c value hops) a = settle_settles _
frame_settles s (frames.deliver k b r n) a = deliver_settles s k b r n _
frame_settles s (frames.work c) a = work_settles s c _
frame_settles s (frames.checkpoint p) a = settle_settles _
frame_settles s (frames.crash p) a = crash_settles s p _ a
frame_settles s (frames.restart p) a = settle_settles _
frame_settles s (frames.show c) a = settle_settles _
frame_settles s (frames.withdraw c) a = settle_settles _

lost_settles : (s : State) → Settled s → Settled (with_lost s true)
unfolding is_done has_caught_up
lost_settles s h = h

pub settled_after : (moment : List Line) → Settled (state_after moment)
unfolding state_after start no_job job_machines counting
settled_after moment = keep_along {H = Unit {0}} (λ s h f. h) (λ s h. Settled s) (λ s h f k y a. frame_settles s f a) (λ s h k. lost_settles s k) start tt moment (all_nil _)
