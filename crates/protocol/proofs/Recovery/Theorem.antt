-- The theorem: demand 3 holds of every list of lines.
use Rattle.std.specs.Prelude.{◌≡◌, Bool, ◌≢◌, List, [], ◌∷◌, ◌++◌, ℕ, ◌≤◌}
use Rattle.std.proofs.Math.Path.{refl, subst}
use Rattle.std.proofs.Common.{sym, ap, ◌∙◌, eqb-true}
use Rattle.std.proofs.Math.Bool.{true, false}
use Rattle.std.proofs.Math.Logic.{inl, inr}
use Rattle.std.proofs.Math.Option.{Option, some, none}
use native.Mathlib.Omega.{arith}
use Rattle.lists.specs.Tests.{and_l, and_r, and4, true_not_false, not_true}
use Rattle.lists.specs.Map.{upd, upd_ind}
use Rattle.lists.specs.Lists.{◌∈◌, All, allb, allb_true, find_some, Prefix, prefix_refl, prefix_trans}
use Rattle.lists.specs.Counting.{counting, mem_counting}
use Rattle.lists.specs.Questions.{Result, ok, refuse, put_all, Yes, put_ok}
use Rattle.protocol.specs.Work.{ports}
use Rattle.protocol.specs.declared.Entry.{Entry}
use Rattle.protocol.specs.declared.Packet.{Packet}
use Rattle.protocol.specs.declared.Status.{Status}
use Rattle.protocol.specs.declared.Status.TheVariants.{Up, Down, CatchingUp}
use Rattle.protocol.specs.Parts.{Job, State, no_job, start, every_machine, job_machines, up}
use Rattle.protocol.specs.Setters.{with_lost, with_table}
use Rattle.protocol.specs.Sending.{send, send_all}
use Rattle.protocol.specs.Working.{next_entry, worked_only, receivers_of, value_out, hops_out, work_next}
use Rattle.protocol.specs.Packets as packets
use Rattle.protocol.specs.Checkpoint as checkpoints
use Rattle.protocol.specs.Crash as crashes
use Rattle.protocol.specs.Restart as restarts
use Rattle.protocol.specs.Withdraw as withdrawals
use Rattle.protocol.specs.Frames.{Line, Frame, job, inject, deliver, work, checkpoint, crash, restart, show, withdraw, frame}
use Rattle.protocol.specs.Job.{machines_of, job_in_range, job_of, begin}
use Rattle.protocol.specs.Questions as questions
use Rattle.protocol.specs.Step.{Outcome, accept, crash_outcome, deliver_outcome, work_outcome, outcome, judged, play, step_frame, step, play_all}
use Rattle.protocol.specs.CrashFree.{Run, crash_free}
use Rattle.protocol.specs.History.{History, no_history, add_worked, recorded, is_accepted, record_frame, record_line, history_from, state_after, history_after}
use Rattle.protocol.specs.Demand3.{Normal, Begins, Demand3}
use Rattle.protocol.proofs.Recovery.Run.Facts.{RunOk}
use Rattle.protocol.proofs.Recovery.Invariant.World.{nothing_pending}
use Rattle.protocol.proofs.Recovery.Invariant.Clauses.{Chare, Waiting}
use Rattle.protocol.proofs.Recovery.Laws.Restored.{restored_table_same}
use Rattle.protocol.proofs.Recovery.Invariant.Good.{Good, Told, Carried}
use Rattle.protocol.proofs.Recovery.Frames.States.{is_up}
use Rattle.protocol.proofs.Recovery.Frames.Deliver.{keep_deliver}
use Rattle.protocol.proofs.Recovery.Frames.Waiting.{deliver_waits, checkpoint_waits, crash_waits, restart_waits}
use Rattle.protocol.proofs.Recovery.Frames.Withdraw.{withdraw_frame}
use Rattle.protocol.proofs.Recovery.Along.{settled}
use Rattle.protocol.proofs.Recovery.Frames.Calm.{calm_told, calm_send_all, calm_deliver}
use Rattle.protocol.proofs.Recovery.Frames.Grow.{Onward, inject_frame, work_step_frame}
use Rattle.protocol.proofs.Recovery.Frames.Checkpoint.{checkpoint_good, checkpoint_told, checkpoint_job, checkpoint_status}
use Rattle.protocol.proofs.Recovery.Frames.Crash.{crash_step}
use Rattle.protocol.proofs.Recovery.Frames.CrashTold.{crash_told}
use Rattle.protocol.proofs.Recovery.Frames.Restart.{restart_step, restart_told}
use Rattle.protocol.proofs.Recovery.Frames.Settle.{keep_settle}
use Rattle.protocol.proofs.Recovery.Frames.Job.{between_true, machine_known, carried_start, carried_job}
use Rattle.protocol.proofs.Recovery.Conclusion.{Ranged, carried_ok, settled_sequence, agrees}
use Rattle.protocol.proofs.Recovery.Laws.Status.{up?, down_is_down, neither_up}

-- ---- small facts on states
goes_where : (j : Job) (y : Packet) (q a r : ℕ) → packets.kind y.content ≡ q → y.sender ≡ a → y.receiver ≡ r → packets.goes_to j y ≡ packets.destination j q a r
unfolding packets.goes_to
goes_where j y q a r e f g i = packets.destination j (e i) (f i) (g i)

module _ (s : State) (r : ℕ) (e : Entry) where
  work_job : (work_next s r e).job ≡ s.job
  unfolding work_next worked_only
  work_job = (calm_send_all (worked_only s r e) r (receivers_of s r e) (value_out s r e) (hops_out e)).job

  work_status : (work_next s r e).status ≡ s.status
  unfolding work_next worked_only
  work_status = (calm_send_all (worked_only s r e) r (receivers_of s r e) (value_out s r e) (hops_out e)).status

same_injections : (s : State) (h : History) (p : ℕ) → (recorded s h (checkpoint p)).injections ≡ h.injections
unfolding recorded
same_injections s h p = refl

restart_injections : (s : State) (h : History) (p : ℕ) → (recorded s h (restart p)).injections ≡ h.injections
unfolding recorded
restart_injections s h p = refl

crash_job : (s : State) (p : ℕ) → (crashes.crash s p).job ≡ s.job
unfolding crashes.crash
crash_job s p = refl

restart_job : (s : State) (p : ℕ) → (restarts.restart s p).job ≡ s.job
unfolding restarts.restart restarts.restore
restart_job s p = refl

-- the status of one machine changes
machine_ranged : {s : State} (p : ℕ) (t : Status) → (1 ≤ p) × (p ≤ s.job.machines) → Ranged s → (q : ℕ) → upd p t s.status q ≢ Up → (1 ≤ q) × (q ≤ s.job.machines)
machine_ranged {s} p t m r q = upd_ind (λ q t. t ≢ Up → (1 ≤ q) × (q ≤ s.job.machines)) p t s.status (λ _. m) (λ q _ u. r.known q u) q

crash_ranged : (s : State) (p : ℕ) → (1 ≤ p) × (p ≤ s.job.machines) → Ranged s → Ranged (crashes.crash s p)
unfolding crashes.crash
crash_ranged s p m r = record { known = machine_ranged p Down m r; six = r.six }

restart_ranged : (s : State) (p : ℕ) → (1 ≤ p) × (p ≤ s.job.machines) → Ranged s → Ranged (restarts.restart s p)
unfolding restarts.restart restarts.restore
restart_ranged s p m r = record { known = machine_ranged p CatchingUp m r; six = r.six }

begin_ranged : (b : List ℕ) → job_in_range b ≡ true → Ranged (begin b)
unfolding begin job_of job_in_range
begin_ranged b e = record { known = λ p u. absurd (u refl); six = (between_true 2 6 (machines_of b) (and4 _ _ _ _ e).0).1 }

-- ---- what is kept by every line
pub record Kept (s : State) (h : History) : Type 0 where
  pub carried : Carried s h
  pub ranged : Ranged s

pub record Reached {s : State} {h : History} (k : Kept s h) (t : State) (h' : History) : Type 0 where
  pub kept : Kept t h'
  pub grows : (a : ℕ) → Prefix (k.carried.run.worked a) (kept.carried.run.worked a)

unchanged : {s : State} {h : History} (k : Kept s h) → Reached k s h
unchanged k = record { kept = k; grows = λ a. prefix_refl _ }

-- the frame is accepted: machines that are done settle
finish : {s : State} {h : History} (k : Kept s h) {t : State} {h' : History} → Onward k.carried t h' → Ranged t → Reached k (restarts.settle t) h'
finish k {t} {h'} o r =
    let c = o.carried in
    let d = keep_settle t (carried_ok c) c.good c.told in
    record {
      kept = record {
        carried = record {
          works = c.works;
          run = c.run;
          stable = c.stable;
          chares = c.chares;
          good = d.good;
          told = d.told;
          waiting = subst (λ (t : State). Waiting c.run (t.live 0).log) (sym (settled t)) c.waiting;
          is_run = subst (λ j. crash_free (ports j) h'.injections c.works ≡ some c.run) (sym d.job) c.is_run;
        };
        ranged = record {
          known = λ p u. subst (λ j. (1 ≤ p) × (p ≤ j.machines)) (sym d.job) (r.known p (d.known p u));
          six = subst (λ j. j.machines ≤ 6) (sym d.job) r.six;
        };
      };
      grows = o.grows;
    }

-- job and status are as they were
same_ranged : {s t : State} → t.job ≡ s.job → t.status ≡ s.status → Ranged s → Ranged t
same_ranged same status r = record {
  known = λ p u. subst (λ j. (1 ≤ p) × (p ≤ j.machines)) (sym same) (r.known p (λ e. u (ap (λ f. f p) status ∙ e)));
  six = subst (λ j. j.machines ≤ 6) (sym same) r.six;
}

module _ {s : State} {h : History} (k : Kept s h) where
  c : Carried s h
  c = k.carried

  run_is : RunOk s.job k.carried.run
  run_is = carried_ok k.carried

  -- 3: a chare, a machine
  chare_is : (r : ℕ) → questions.is_chare s r ≡ true → Chare s.job r
  unfolding questions.is_chare
  chare_is r e = let (a, b) = between_true 1 s.job.chares r e in k.carried.good.inv.job.range r a b

  machine_is : (p : ℕ) → questions.is_machine s p ≡ true → (1 ≤ p) × (p ≤ s.job.machines)
  unfolding questions.is_machine
  machine_is p e = between_true 1 s.job.machines p e

  not_the_desk : (p : ℕ) → questions.is_machine s p ≡ true → s.job.home 0 ≢ p
  not_the_desk p e d = let (a, _) = machine_is p e in let z = k.carried.good.inv.job.desk in omega arith

  is_known : (p : ℕ) → questions.is_machine s p ≡ true → p ∈ every_machine
  is_known p e = let (a, b) = machine_is p e in let d = k.ranged.six in machine_known p a (omega arith)

  -- 5
  is_up_here : (p : ℕ) → up s p ≡ true → s.status p ≢ Down
  is_up_here p e = is_up s p k.carried.good.inv.machines.desk e

  -- nothing but the state changes, and the run is the same
  onward : {t : State} {h' : History} → t.job ≡ s.job → h'.injections ≡ h.injections → {stable : ℕ → ℕ} → Good nothing_pending t k.carried.run stable
      → Told t h' k.carried.run stable → Waiting k.carried.run (t.live 0).log → Onward k.carried t h'
  onward {t} {h'} same inj {stable} g told waiting = record {
    carried = record {
      works = k.carried.works;
      run = k.carried.run;
      stable = stable;
      good = g;
      told = told;
      waiting = waiting;
      is_run = subst (λ j. crash_free (ports j) h'.injections k.carried.works ≡ some k.carried.run) (sym same)
          (subst (λ i. crash_free (ports s.job) i k.carried.works ≡ some k.carried.run) (sym inj) k.carried.is_run);
      chares = subst (All (λ i. i.chare ≢ 0)) (sym inj) k.carried.chares;
    };
    grows = λ a. prefix_refl _;
  }

  -- ---- frame by frame
  keep_inject : (r v n : ℕ) → Yes (questions.inject_questions s r v n) → Reached k (accept (send s 0 r v n)).state (recorded s h (inject r v n))
  unfolding questions.inject_questions accept send_all
  keep_inject r v n y = finish k (inject_frame k.carried r v n (chare_is r (and_l _ _ y.1.0)) y.1.1.1.1.0) (let m = calm_send_all s 0 (r ∷ []) v n in same_ranged m.job m.status k.ranged)

  keep_delivered : (q a r n : ℕ) (y : Packet) → questions.on_wire s q a r n ≡ some y → up s (packets.destination s.job q a r) ≡ true
      → questions.ticket_admitted s y ≡ true → Reached k (accept (packets.deliver s q a r n y)).state (recorded s h (deliver q a r n))
  unfolding questions.on_wire packets.is_named accept recorded
  keep_delivered q a r n y found up? admits =
      let (i, named) = find_some _ s.wire found in
      let (e, f, g, _) = and4 _ _ _ _ named in
      let to = goes_where s.job y q a r (eqb-true _ _ e) (eqb-true _ _ f) (eqb-true _ _ g) in
      let m = calm_deliver s q a r n y in
      finish k (onward m.job refl (keep_deliver run_is k.carried.good q a r n y i (subst (λ p. s.status p ≢ Down) (sym to) (is_up_here _ up?)) admits) (calm_told m k.carried.told) (deliver_waits k.carried.good q a r n y i k.carried.waiting))
      (same_ranged m.job m.status k.ranged)

  keep_wire : (q a r n : ℕ) (o : Option Packet) → questions.on_wire s q a r n ≡ o → up s (packets.destination s.job q a r) ≡ true → Yes (questions.packet_questions s o)
      → Reached k (deliver_outcome s q a r n o).state (recorded s h (deliver q a r n))
  unfolding questions.packet_questions deliver_outcome accept
  keep_wire q a r n none e u y = true_not_false y.0 refl
  keep_wire q a r n (some p) e u y = keep_delivered q a r n p e u y.1.1.0

  keep_work : (r : ℕ) (o : Option Entry) → next_entry (s.live r) ≡ o → Chare s.job r → up s (s.job.home r) ≡ true → Yes (questions.entry_questions s r o)
      → Reached k (work_outcome s r o).state (add_worked h r o)
  unfolding questions.entry_questions work_outcome accept
  keep_work r none e chare u y = true_not_false y.0 refl
  keep_work r (some e) found chare u y =
      let o = work_step_frame k.carried r chare (is_up_here _ u) e found (and_l _ _ y.0) (and_r e.received _ y.0) y.1.1.0 in
      finish k o (same_ranged (work_job s r e) (work_status s r e) k.ranged)

  keep_checkpoint : (p : ℕ) → Yes (questions.checkpoint_questions s p) → Reached k (accept (checkpoints.checkpoint s p)).state (recorded s h (checkpoint p))
  unfolding questions.checkpoint_questions accept
  keep_checkpoint p y =
      let m = machine_is p y.1.0 in
      let d : p ≢ 0 = omega arith in
      let u = is_up_here p (and_l _ _ y.1.1.1.0) in
      finish k (onward (checkpoint_job s p) (same_injections s h p) (checkpoint_good s k.carried.run k.carried.stable run_is k.carried.good p d u)
      (checkpoint_told s k.carried.run k.carried.stable k.carried.good p d u h k.carried.told) (checkpoint_waits s p k.carried.waiting))
      (same_ranged (checkpoint_job s p) (checkpoint_status s p) k.ranged)

  lost_good : {x : Run} {stable : ℕ → ℕ} → Good nothing_pending s x stable → Good nothing_pending (with_lost s true) x stable
  lost_good g = record {
    mem = g.mem;
    inv = g.inv;
    silent = g.silent;
    linked = record { up = g.linked.up; down = λ c a d. g.linked.down c a d ∙ ap (with_table (s.copy c)) (sym (restored_table_same s (with_lost s true) (s.job.home c) c refl refl refl (λ q _ _. refl))) };
  }

  -- FF: only the flag changes
  keep_lost : Reached k (with_lost s true) h
  unfolding onward
  keep_lost = record {
    kept = record {
      carried = (onward {t = with_lost s true} refl refl (lost_good k.carried.good)
          (record { sequence = k.carried.told.sequence; saved = k.carried.told.saved; nobody = k.carried.told.nobody }) k.carried.waiting).carried;
      ranged = record { known = k.ranged.known; six = k.ranged.six };
    };
    grows = λ a. prefix_refl _;
  }

  -- cover: every machine is up
  all_up : (p : ℕ) → allb (crashes.is_normal s) (job_machines s.job) ≡ true → s.status p ≡ Up
  unfolding crashes.is_normal job_machines
  all_up p e = elim (up? (s.status p)) [
    | inl z ↦ z
    | inr d ↦ let (a, b) = k.ranged.known p d in neither_up (s.status p) (allb_true _ (counting s.job.machines 1) e p (mem_counting s.job.machines 1 p a (omega arith)))
  ]

  keep_crash : (p : ℕ) → Yes (questions.crash_questions s p) → crashes.has_cover s p ≡ true → Reached k (accept (crashes.crash s p)).state (recorded s h (crash p))
  unfolding questions.crash_questions crashes.has_cover accept recorded
  keep_crash p y e =
      let m = is_known p y.1.0 in
      finish k (onward (crash_job s p) refl
      (crash_step s k.carried.run k.carried.stable run_is k.carried.good p m (λ q. all_up q (and_l _ _ e)) (and_r (allb (crashes.is_normal s) (job_machines s.job)) _ e))
      (crash_told s p k.carried.told) (crash_waits s p (not_the_desk p y.1.0) k.carried.waiting))
      (crash_ranged s p (machine_is p y.1.0) k.ranged)

  keep_restart : (p : ℕ) → Yes (questions.restart_questions s p) → Reached k (accept (restarts.restart s p)).state (recorded s h (restart p))
  unfolding questions.restart_questions accept
  keep_restart p y =
      let d = down_is_down (s.status p) y.1.1.1.0 in
      finish k (onward (restart_job s p) (restart_injections s h p) (restart_step s k.carried.run k.carried.stable k.carried.good p d)
      (restart_told s k.carried.run k.carried.stable k.carried.good p d h k.carried.told) (restart_waits s p (not_the_desk p y.1.0) k.carried.waiting))
      (restart_ranged s p (machine_is p y.1.0) k.ranged)

  keep_show : Reached k (restarts.settle s) h
  keep_show = finish k (onward refl refl k.carried.good k.carried.told k.carried.waiting) k.ranged

  keep_withdraw : (r : ℕ) → Yes (questions.withdraw_questions s r) → Reached k (accept (withdrawals.withdraw s r)).state (recorded s h (withdraw r))
  unfolding questions.withdraw_questions accept withdrawals.withdraw withdrawals.take_back
  keep_withdraw r y = finish k (withdraw_frame k.carried r (chare_is r y.1.0) (is_up_here _ y.1.1.1.0) y.1.1.1.1.0) (same_ranged refl refl k.ranged)

  -- before a job nothing was worked
  keep_job : (b : List ℕ) → Yes (questions.job_questions s b) → Reached k (accept (begin b)).state no_history
  unfolding questions.job_questions accept
  keep_job b y = finish k (record {
    carried = carried_job b y.1.0;
    grows = λ a. subst (λ l. Prefix l ((carried_job b y.1.0).run.worked a))
        (sym (k.carried.told.nobody a (k.carried.good.inv.job.unset (not_true s.job.set y.0) a)).1) (record { rest = (carried_job b y.1.0).run.worked a; joined = refl });
  })
      (begin_ranged b y.1.0)

-- ---- any frame, any line
module _ {s : State} {h : History} (k : Kept s h) where
  keep_crashed : (p : ℕ) → Yes (questions.crash_questions s p) → (b : Bool) → crashes.has_cover s p ≡ b
      → Reached k (crash_outcome s p b).state (record_frame s h (some (crash p)) (is_accepted (crash_outcome s p b).answer))
  unfolding crash_outcome record_frame is_accepted accept
  keep_crashed p y true e = keep_crash k p y e
  keep_crashed p y false e = keep_lost k

  keep_wired : (q a r n : ℕ) → Yes (questions.deliver_questions s q a r n) → Reached k (deliver_outcome s q a r n (questions.on_wire s q a r n)).state (recorded s h (deliver q a r n))
  unfolding questions.deliver_questions
  keep_wired q a r n y = keep_wire k q a r n (questions.on_wire s q a r n) refl y.1.1.1.0 y.1.1.1.1

  keep_worked : (r : ℕ) → Yes (questions.work_questions s r) → Reached k (work_outcome s r (next_entry (s.live r))).state (add_worked h r (next_entry (s.live r)))
  unfolding questions.work_questions
  keep_worked r y = keep_work k r (next_entry (s.live r)) refl (chare_is k r y.1.0) y.1.1.1.0 y.1.1.1.1

  delivered_accepted : (q a r n : ℕ) (o : Option Packet) → is_accepted (deliver_outcome s q a r n o).answer ≡ true
  unfolding is_accepted deliver_outcome accept
  delivered_accepted q a r n none = refl
  delivered_accepted q a r n (some p) = refl

  worked_accepted : (r : ℕ) (o : Option Entry) → is_accepted (work_outcome s r o).answer ≡ true
  unfolding is_accepted work_outcome accept
  worked_accepted r none = refl
  worked_accepted r (some e) = refl

  keep_yes : (f : Frame) → Yes (questions.questions s f) → Reached k (outcome s f).state (record_frame s h (some f) (is_accepted (outcome s f).answer))
  unfolding questions.questions outcome record_frame is_accepted recorded accept
  keep_yes (job b) y = keep_job k b y
  keep_yes (inject r v n) y = keep_inject k r v n y
  keep_yes (deliver q a r n) y = rw (delivered_accepted q a r n (questions.on_wire s q a r n)) (keep_wired q a r n y)
  keep_yes (work r) y = rw (worked_accepted r (next_entry (s.live r))) (keep_worked r y)
  keep_yes (checkpoint p) y = keep_checkpoint k p y
  keep_yes (crash p) y = keep_crashed p y (crashes.has_cover s p) refl
  keep_yes (restart p) y = keep_restart k p y
  keep_yes (show r) y = keep_show k
  keep_yes (withdraw r) y = keep_withdraw k r y

  -- refused: nothing changes
  keep_judged : (f : Frame) (r : Result Outcome) → put_all (questions.questions s f) (outcome s f) ≡ r → Reached k (judged s r).state (record_frame s h (some f) (is_accepted (judged s r).answer))
  unfolding judged record_frame is_accepted
  keep_judged f (refuse n) e = unchanged k
  keep_judged f (ok o) e =
      let (y, q) = put_ok (questions.questions s f) (outcome s f) o e in
      subst (λ o. Reached k o.state (record_frame s h (some f) (is_accepted o.answer))) q (keep_yes f y)

  keep_read : (o : Option Frame) → Reached k (step_frame s o).state (record_frame s h o (is_accepted (step_frame s o).answer))
  unfolding step_frame record_frame play
  keep_read none = unchanged k
  keep_read (some f) = keep_judged f (put_all (questions.questions s f) (outcome s f)) refl

  pub keep_line : (l : Line) → Reached k (step s l).state (record_line s h l)
  unfolding step record_line
  keep_line l = keep_read (frame l)

-- ---- any list of lines
pub keep_lines : {s : State} {h : History} (k : Kept s h) (ls : List Line) → Reached k (play_all s ls) (history_from s h ls)
unfolding play_all history_from
keep_lines k [] = unchanged k
keep_lines {s} {h} k (l ∷ ls) =
    let a = keep_line k l in
    let b = keep_lines {s = (step s l).state} {h = record_line s h l} a.kept ls in
    record { kept = b.kept; grows = λ c. prefix_trans (a.grows c) (b.grows c) }

kept_start : Kept start no_history
unfolding start no_job
kept_start = record { carried = carried_start; ranged = record { known = λ p u. absurd (u refl); six = omega arith } }

pub kept_after : (ls : List Line) → Kept (state_after ls) (history_after ls)
unfolding state_after history_after
kept_after ls = (keep_lines kept_start ls).kept

-- the state and the history after one list and then another
pub run_append : (s : State) (a b : List Line) → play_all s (a ++ b) ≡ play_all (play_all s a) b
unfolding play_all
run_append s [] b = refl
run_append s (l ∷ a) b = run_append (step s l).state a b

pub history_append : (s : State) (h : History) (a b : List Line) → history_from s h (a ++ b) ≡ history_from (play_all s a) (history_from s h a) b
unfolding play_all history_from
history_append s h [] b = refl
history_append s h (l ∷ a) b = history_append (step s l).state (record_line s h l) a b

-- what was worked at an earlier quiet moment begins what is worked at a later one
begins : (earlier since : List Line) → Normal (state_after earlier) → Normal (state_after (earlier ++ since)) → Begins earlier (earlier ++ since)
unfolding state_after history_after
begins earlier since q q' c =
    let k = kept_after earlier in
    let r = keep_lines k since in
    let e = run_append start earlier since in
    let f = history_append start no_history earlier since in
    let a = settled_sequence k.carried k.ranged q c in
    let b = settled_sequence r.kept.carried r.kept.ranged (subst Normal e q') c in
    subst (λ l. Prefix l ((history_from start no_history (earlier ++ since)).sequence c)) (sym a)
    (subst (λ l. Prefix (k.carried.run.worked c) l) (sym (ap (λ h. h.sequence c) f ∙ b)) (r.grows c))

-- Demand 3: for every list of lines, begun before any job, at every quiet moment
pub demand3 : Demand3
demand3 moment quiet = record {
  agrees = let k = kept_after moment in agrees (state_after moment) (history_after moment) k.carried k.ranged quiet.normal;
  begins = λ earlier since e q. subst (λ m. Begins earlier m) e (begins earlier since q.normal (subst (λ m. Normal (state_after m)) (sym e) quiet.normal));
}
