-- Why a list with 00 spelt out gets the lines that 00 gave before.
use Rattle.std.specs.Prelude.{◌≡◌, Bool, true, false, not, ◌&&◌, ◌⊎◌, ◌≢◌, List, [], ◌∷◌, ℕ, zero, suc, ◌+◌, ◌*◌, ◌-◌, ◌<◌, ◌≤◌, eqb, length}
use Rattle.std.proofs.Math.Path.{refl, sym, ap, fun_ext}
use Rattle.std.proofs.Common.{◌∙◌}
use Rattle.std.proofs.Math.Bool.{cond}
use Rattle.std.proofs.Math.Logic.{inl, inr}
use Rattle.std.proofs.Math.Option.{Option, some, none}
use native.Mathlib.Omega.{arith}
use Rattle.std.proofs.Math.Dec.{leb}
use Rattle.std.proofs.Math.ListN.{get_or, get_or-eq_default}
use borrow.Author.Tests.{eqb-true, eqb-false, eq-eqb, ne_eqb, leb-true, le-leb, lt-leb}
use Rattle.lists.specs.Tests.{either, split, lt?, and_r}
use Rattle.lists.specs.Questions.{Question, ◌asks◌, put_all}
use Rattle.lists.specs.Lists.{keep, keep_mem, allb, allb_ext}
use Rattle.protocol.specs.declared.Entry.{Entry}
use Rattle.protocol.specs.declared.Packet.{Packet}
use Rattle.protocol.specs.declared.Rule.{Rule}
use Rattle.protocol.specs.declared.Rule.TheVariants.{Other}
use Rattle.protocol.specs.declared.Answer.TheVariants.{Refused}
use Rattle.protocol.specs.Sending.{send}
use Rattle.protocol.specs.Working.{next_entry, worked_only, receivers_of, value_out, hops_out, work_next}
use Rattle.protocol.specs.Packets as packets
use Rattle.protocol.specs.Checkpoint as checkpoints
use Rattle.protocol.specs.Crash as crashes
use Rattle.protocol.specs.Restart as restarts
use Rattle.protocol.specs.Withdraw as withdrawals
use Rattle.protocol.proofs.Recovery.Along.{settled}
use Rattle.protocol.proofs.Recovery.Frames.Calm.{calm_send, calm_send_all, calm_deliver}
use Rattle.protocol.specs.Parts.{State, every_chare, every_machine}
use Rattle.protocol.specs.Frames.{Line, Frame, job, inject, deliver, work, checkpoint, crash, restart, show, withdraw, frame, frame_of, parts, bytes, between, is_whole, exact_length, least_length}
use Rattle.protocol.specs.Job.{machines_of, chares_of, buddy_byte, chare_byte, buddy_in_range, chare_in_range, job_in_range, has_machine, has_chare, previous_machine, job_of, first_memory, begin}
use Rattle.protocol.specs.Questions.{questions, job_questions, on_wire}
use Rattle.protocol.specs.Step.{Outcome, play, judged, accept_by, accept, deliver_outcome, work_outcome, crash_outcome, outcome, step, step_frame, answers_from}
use Rattle.protocol.specs.Cases.Computing.{opened}
use Rattle.protocol.proofs.Recovery.Frames.Job.{between_true, true_between, machine_positive, chare_positive}
use Rattle.protocol.specs.Changes.ZeroBuddy.{next_machine, buddy_before, job_before, begin_before, play_before, step_before, answers_before, spelt_byte, by_place, spelt_out, spelt, spelt_frame, MayStay, refused, of_two, Rewritten, nothing, line, stays, ZeroBuddy}

-- ---- bytes by their places
by_place_length : (f : ℕ → ℕ → ℕ) (k : ℕ) (l : List ℕ) → length (by_place f k l) ≡ length l
unfolding by_place
by_place_length f k [] = refl
by_place_length f k (x ∷ l) = ap suc (by_place_length f (suc k) l)

by_place_at : (f : ℕ → ℕ → ℕ) (k i j : ℕ) (l : List ℕ) → j ≡ k + i → i < length l → get_or (by_place f k l) i 0 ≡ f j (get_or l i 0)
unfolding by_place
by_place_at f k i j [] e h = absurd (omega arith)
by_place_at f k zero j (x ∷ l) e h = ap (λ n. f n x) (let q : k ≡ j = omega arith in q)
by_place_at f k (suc i) j (x ∷ l) e h = by_place_at f (suc k) i j l (omega arith) (omega arith)

module _ (b : List ℕ) where
  spelt_length : length (spelt_out b) ≡ length b
  unfolding spelt_out
  spelt_length = by_place_length (spelt_byte b) 0 b

  -- a byte that is no buddy stays
  other_byte : (i : ℕ) → between 3 (machines_of b + 2) i ≡ false → get_or (spelt_out b) i 0 ≡ get_or b i 0
  unfolding spelt_out spelt_byte
  other_byte i e = elim (lt? i (length b)) [
    | inl h ↦ by_place_at (spelt_byte b) 0 i i b (omega arith) h ∙ rw e
    | inr h ↦ get_or-eq_default (spelt_out b) 0 (rw spelt_length h) ∙ sym (get_or-eq_default b 0 h)
  ]

  unchanged : (i : ℕ) → (i < 3) ⊎ (machines_of b + 2 < i) → between 3 (machines_of b + 2) i ≡ false
  unfolding between
  unchanged i (inl h) = rw (lt-leb 3 i h)
  unchanged i (inr h) = either (leb 3 i) (λ e. rw (e, lt-leb i (machines_of b + 2) h)) (λ e. rw e)

  same_kind : get_or (spelt_out b) 0 0 ≡ get_or b 0 0
  same_kind = other_byte 0 (unchanged 0 (inl (omega arith)))

  same_machines : machines_of (spelt_out b) ≡ machines_of b
  unfolding machines_of
  same_machines = other_byte 1 (unchanged 1 (inl (omega arith)))

  same_chares : chares_of (spelt_out b) ≡ chares_of b
  unfolding chares_of
  same_chares = other_byte 2 (unchanged 2 (inl (omega arith)))

  same_chare_byte : (c i : ℕ) → 1 ≤ c → chare_byte (spelt_out b) c i ≡ chare_byte b c i
  unfolding chare_byte
  same_chare_byte c i h = rw same_machines (other_byte (machines_of b + 3 * c + i) (unchanged _ (inr (omega arith))))

  same_whole : is_whole (spelt_out b) ≡ is_whole b
  unfolding is_whole exact_length machines_of chares_of
  same_whole = rw (same_kind, same_machines, same_chares, spelt_length)

  -- ---- a chare's numbers
  same_number : (i c : ℕ) → cond (has_chare (spelt_out b) c) (chare_byte (spelt_out b) c i) 0 ≡ cond (has_chare b c) (chare_byte b c i) 0
  unfolding has_chare
  same_number i c = rw same_chares (either (between 1 (chares_of b) c)
      (λ e. rw (e, same_chare_byte c i (between_true 1 (chares_of b) c e).0))
      (λ e. rw e))

  same_chare_range : (c : ℕ) → 1 ≤ c → chare_in_range (spelt_out b) c ≡ chare_in_range b c
  unfolding chare_in_range
  same_chare_range c h = rw (same_machines, same_chares, same_chare_byte c 0 h, same_chare_byte c 1 h, same_chare_byte c 2 h)

  same_memory : first_memory (spelt_out b) ≡ first_memory b
  unfolding first_memory has_chare
  same_memory = fun_ext (λ c. rw same_chares)

  same_held : has_machine (spelt_out b) ≡ has_machine b
  unfolding has_machine
  same_held = fun_ext (λ p. rw same_machines)

-- ---- the machine after p of m
module _ (m p : ℕ) where
  next_positive : 1 ≤ next_machine m p
  unfolding next_machine
  next_positive = split (λ t. 1 ≤ cond t 1 (p + 1)) (eqb p m) (λ _. omega arith) (λ _. omega arith)

  next_top : 2 ≤ m → p ≤ m → next_machine m p ≤ m
  unfolding next_machine
  next_top h k = split (λ t. cond t 1 (p + 1) ≤ m) (eqb p m) (λ _. omega arith) (λ e. let d = eqb-false p m e in omega arith)

  next_differs : 2 ≤ m → next_machine m p ≢ p
  unfolding next_machine
  next_differs h = split (λ t. cond t 1 (p + 1) ≢ p) (eqb p m) (λ e q. let d = eqb-true p m e in omega arith) (λ _ q. omega arith)

-- ---- the buddies of a line of its exact length
module _ (b : List ℕ) (kind : get_or b 0 0 ≡ 1) (whole : is_whole b ≡ true) where
  exact : length b ≡ 3 + machines_of b + 3 * chares_of b
  unfolding is_whole exact_length machines_of chares_of
  exact = rw (eq-eqb (get_or b 0 0) 1 kind) at
      (eqb-true (length b) (exact_length b)
      (and_r (not (eqb (least_length (get_or b 0 0)) 0) && leb (least_length (get_or b 0 0)) (length b)) (eqb (length b) (exact_length b)) whole))

  module _ (p : ℕ) (low : 1 ≤ p) (high : p ≤ machines_of b) where
    new_buddy : buddy_byte (spelt_out b) p ≡ cond (eqb (buddy_byte b p) 0) (next_machine (machines_of b) p) (buddy_byte b p)
    unfolding buddy_byte spelt_out spelt_byte
    new_buddy =
        let h = exact in
        let back : 2 + p - 2 ≡ p = omega arith in
        by_place_at (spelt_byte b) 0 (2 + p) (2 + p) b (omega arith) (omega arith)
        ∙ rw (true_between 3 (machines_of b + 2) (2 + p) (omega arith) (omega arith), back)

    named : buddy_byte (spelt_out b) p ≢ 0
    named e = either (eqb (buddy_byte b p) 0)
        (λ z. let n = next_positive (machines_of b) p in let q = rw z at (sym new_buddy ∙ e) in omega arith)
        (λ z. eqb-false (buddy_byte b p) 0 z (rw z at (sym new_buddy ∙ e)))

    same_buddy_range : 2 ≤ machines_of b → buddy_in_range (spelt_out b) p ≡ buddy_in_range b p
    unfolding buddy_in_range
    same_buddy_range two = rw (same_machines b, new_buddy) (either (eqb (buddy_byte b p) 0)
        (λ z. rw (z, eqb-true (buddy_byte b p) 0 z, le-leb _ _ (next_top (machines_of b) p two high), ne_eqb _ _ (next_differs (machines_of b) p two), le-leb 0 (machines_of b) (omega arith), ne_eqb 0 p (λ q. omega arith)))
        (λ z. rw z))

  same_buddy : (p : ℕ) → (job_of (spelt_out b)).buddy p ≡ buddy_before b p
  unfolding job_of has_machine buddy_before
  same_buddy p = rw (same_machines b) (either (between 1 (machines_of b) p)
      (λ e. let k = between_true 1 (machines_of b) p e in rw (e, ne_eqb _ 0 (named p k.0 k.1), new_buddy p k.0 k.1))
      (λ e. rw e))

  pub same_job : job_of (spelt_out b) ≡ job_before b
  unfolding job_of job_before
  same_job = λ i. record {
    set = true;
    machines = same_machines b i;
    chares = same_chares b i;
    buddy = fun_ext same_buddy i;
    home = fun_ext (same_number b 0) i;
    first = fun_ext (same_number b 1) i;
    second = fun_ext (same_number b 2) i;
  }

  same_begin : begin (spelt_out b) ≡ begin_before b
  unfolding begin begin_before
  same_begin = rw (same_job, same_memory b, same_held b)

  -- ---- the range
  same_buddies_range : 2 ≤ machines_of b → allb (buddy_in_range (spelt_out b)) (keep (λ p. leb p (machines_of (spelt_out b))) every_machine) ≡ allb (buddy_in_range b) (keep (λ p. leb p (machines_of b)) every_machine)
  same_buddies_range two =
      ap (λ m. allb (buddy_in_range (spelt_out b)) (keep (λ p. leb p m) every_machine)) (same_machines b)
      ∙ allb_ext _ _ _ (λ p i. let k = keep_mem (λ p. leb p (machines_of b)) every_machine i in same_buddy_range p (machine_positive k.0) (leb-true p (machines_of b) k.1) two)

  same_chares_range : allb (chare_in_range (spelt_out b)) (keep (λ c. leb c (chares_of (spelt_out b))) every_chare) ≡ allb (chare_in_range b) (keep (λ c. leb c (chares_of b)) every_chare)
  same_chares_range =
      ap (λ n. allb (chare_in_range (spelt_out b)) (keep (λ c. leb c n) every_chare)) (same_chares b)
      ∙ allb_ext _ _ _ (λ c i. same_chare_range b c (chare_positive (keep_mem (λ c. leb c (chares_of b)) every_chare i).0))

  same_range : job_in_range (spelt_out b) ≡ job_in_range b
  unfolding job_in_range
  same_range = either (between 2 6 (machines_of b))
      (λ e. let k = between_true 2 6 (machines_of b) e in cc (same_machines b, same_chares b, same_buddies_range k.0, same_chares_range))
      (λ e. rw (same_machines b, e))

-- ---- frames and lists
module _ (s : State) where
  same_play : (b : List ℕ) → get_or b 0 0 ≡ 1 → is_whole b ≡ true → play s (job (spelt_out b)) ≡ play_before s (job b)
  unfolding play play_before questions job_questions outcome
  same_play b kind whole = rw (same_range b kind whole, same_begin b kind whole)

  same_kinds : (b : List ℕ) → is_whole b ≡ true → step_frame s (spelt_frame (parts b (get_or b 0 0))) ≡ step_before s (parts b (get_or b 0 0))
  unfolding parts spelt_frame spelt step_frame step_before play_before
  same_kinds b whole =
      let k = get_or b 0 0 in
      either (eqb k 0x01) (λ e. rw e (same_play b (eqb-true k 1 e) whole))
      (λ e. rw e (either (eqb k 0x10) (λ e. rw e)
      (λ e. rw e (either (eqb k 0x11) (λ e. rw e)
      (λ e. rw e (either (eqb k 0x12) (λ e. rw e)
      (λ e. rw e (either (eqb k 0x13) (λ e. rw e)
      (λ e. rw e (either (eqb k 0x14) (λ e. rw e)
      (λ e. rw e (either (eqb k 0x15) (λ e. rw e)
      (λ e. rw e (either (eqb k 0x16) (λ e. rw e)
      (λ e. rw e (either (eqb k 0x17) (λ e. rw e)
      (λ e. rw e)))))))))))))))))

  same_frame : (o : Option (List ℕ)) → step_frame s (spelt_frame (frame_of o)) ≡ step_before s (frame_of o)
  unfolding frame_of spelt_frame step_frame step_before
  same_frame none = refl
  same_frame (some b) = either (is_whole b) (λ e. rw e (same_kinds b e)) (λ e. rw e)

  same_step : (l k : Line) → frame k ≡ spelt_frame (frame l) → step s k ≡ step_before s (frame l)
  unfolding step frame
  same_step l k e = ap (step_frame s) e ∙ same_frame (bytes l)

-- ---- two machines
two_differ_in_nothing : (p : ℕ) → (1 ≤ p) × (p ≤ 2) → previous_machine 2 p ≡ next_machine 2 p
unfolding previous_machine next_machine
two_differ_in_nothing p h = either (eqb p 1)
    (λ e. let q = eqb-true p 1 e in rw (e, ne_eqb p 2 (λ d. omega arith)) (omega arith))
    (λ e. let d = eqb-false p 1 e in let q : p ≡ 2 = omega arith in rw (e, eq-eqb p 2 q) (omega arith))

two_machines : (b : List ℕ) → machines_of b ≡ 2 → job_of b ≡ job_before b
unfolding job_of job_before buddy_before has_machine
two_machines b m = λ i. record {
  set = true;
  machines = machines_of b;
  chares = chares_of b;
  buddy = fun_ext {f = (job_of b).buddy} {g = buddy_before b} same i;
  home = (job_of b).home;
  first = (job_of b).first;
  second = (job_of b).second;
}
  where
    same : (p : ℕ) → (job_of b).buddy p ≡ buddy_before b p
    same p = rw m (either (between 1 2 p) (λ e. rw (e, two_differ_in_nothing p (between_true 1 2 p e))) (λ e. rw e))

-- ---- a job that may stay
-- what is refused does not see what would follow
refused_same : (s : State) (qs : List Question) (x y : State) (n : ℕ) → (judged s (put_all qs (accept y))).answer ≡ Refused n → judged s (put_all qs (accept x)) ≡ judged s (put_all qs (accept y))
unfolding judged put_all accept
refused_same s [] x y n e = absurd (let z : ◌≡◌ {A = ℕ} 0 1 = cc in omega arith)
refused_same s (k asks true ∷ qs) x y n e = refused_same s qs x y n e
refused_same s (k asks false ∷ qs) x y n e = refl

two_begin : (b : List ℕ) → machines_of b ≡ 2 → begin b ≡ begin_before b
unfolding begin begin_before
two_begin b m = rw (two_machines b m)

may_stay : (s : State) (o : Option Frame) → MayStay s o → step_frame s o ≡ step_before s o
unfolding step_frame step_before play play_before questions outcome
may_stay s (some (job b)) (refused {n = n} e) = refused_same s (job_questions s b) (begin b) (begin_before b) n e
may_stay s (some (job b)) (of_two m) = rw (two_begin b m)
may_stay s none m = elim m [ ]
may_stay s (some (inject _ _ _)) m = elim m [ ]
may_stay s (some (deliver _ _ _ _)) m = elim m [ ]
may_stay s (some (work _)) m = elim m [ ]
may_stay s (some (checkpoint _)) m = elim m [ ]
may_stay s (some (crash _)) m = elim m [ ]
may_stay s (some (restart _)) m = elim m [ ]
may_stay s (some (show _)) m = elim m [ ]
may_stay s (some (withdraw _)) m = elim m [ ]

same_stays : (s : State) (l k : Line) → frame k ≡ frame l → MayStay s (frame l) → step s k ≡ step_before s (frame l)
unfolding step
same_stays s l k e m = ap (step_frame s) e ∙ may_stay s (frame l) m

same_answers : (s : State) {ls ks : List Line} → Rewritten s ls ks → answers_from s ks ≡ answers_before s ls
unfolding answers_from answers_before
same_answers s nothing = refl
same_answers s (line {l = l} {k} {ls} {ks} e r) =
    let o = step_before s (frame l) in
    ap (λ q. q.answer ∷ answers_from q.state ks) (same_step s l k e) ∙ ap (o.answer ∷◌) (same_answers o.state r)
same_answers s (stays {l = l} {k} {ls} {ks} e m r) =
    let o = step_before s (frame l) in
    ap (λ q. q.answer ∷ answers_from q.state ks) (same_stays s l k e m) ∙ ap (o.answer ∷◌) (same_answers o.state r)

-- ---- once a job is set no line sets another, and all that follow may stay
judged_job : (s : State) (o : Outcome) → o.state.job ≡ s.job → (qs : List Question) → (judged s (put_all qs o)).state.job ≡ s.job
unfolding judged put_all
judged_job s o e [] = e
judged_job s o e (n asks true ∷ qs) = judged_job s o e qs
judged_job s o e (n asks false ∷ qs) = refl

accepted_job : (r : Rule) (s t : State) → t.job ≡ s.job → (accept_by r t).state.job ≡ s.job
accepted_job r s t e = ap (λ s. s.job) (settled t) ∙ e

delivered_job : (s : State) (k a r n : ℕ) (o : Option Packet) → (deliver_outcome s k a r n o).state.job ≡ s.job
unfolding deliver_outcome accept
delivered_job s k a r n none = accepted_job Other s s refl
delivered_job s k a r n (some x) = accepted_job (packets.rule_of s x x.content) s (packets.deliver s k a r n x) (calm_deliver s k a r n x).job

worked_job : (s : State) (c : ℕ) (o : Option Entry) → (work_outcome s c o).state.job ≡ s.job
unfolding work_outcome work_next worked_only accept
worked_job s c none = accepted_job Other s s refl
worked_job s c (some e) = accepted_job Other s _ (calm_send_all (worked_only s c e) c (receivers_of s c e) (value_out s c e) (hops_out e)).job

crashed_job : (s : State) (p : ℕ) (b : Bool) → (crash_outcome s p b).state.job ≡ s.job
unfolding crash_outcome crashes.crash accept
crashed_job s p true = accepted_job Other s (crashes.crash s p) refl
crashed_job s p false = refl

played_job : (s : State) (f : Frame) → (outcome s f).state.job ≡ s.job → s.job.set ≡ true → (play s f).state.job.set ≡ true
unfolding play
played_job s f j e = ap (λ j. j.set) (judged_job s (outcome s f) j (questions s f)) ∙ e

set_stays : (s : State) (o : Option Frame) → s.job.set ≡ true → (step_before s o).state.job.set ≡ true
unfolding step_before play_before outcome questions job_questions put_all judged accept checkpoints.checkpoint checkpoints.clean_logs checkpoints.fix_copy checkpoints.prune restarts.restart restarts.restore withdrawals.withdraw withdrawals.take_back
set_stays s none e = e
set_stays s (some (job b)) e = rw e
set_stays s (some (inject c v h)) e = played_job s (inject c v h) (accepted_job Other s (send s 0 c v h) (calm_send s 0 c v h).job) e
set_stays s (some (deliver k a r n)) e = played_job s (deliver k a r n) (delivered_job s k a r n (on_wire s k a r n)) e
set_stays s (some (work c)) e = played_job s (work c) (worked_job s c (next_entry (s.live c))) e
set_stays s (some (checkpoint p)) e = played_job s (checkpoint p) (accepted_job Other s (checkpoints.checkpoint s p) refl) e
set_stays s (some (crash p)) e = played_job s (crash p) (crashed_job s p (crashes.has_cover s p)) e
set_stays s (some (restart p)) e = played_job s (restart p) (accepted_job Other s (restarts.restart s p) refl) e
set_stays s (some (show c)) e = played_job s (show c) (ap (λ s. s.job) (settled s)) e
set_stays s (some (withdraw c)) e = played_job s (withdraw c) (accepted_job Other s (withdrawals.withdraw s c) refl) e

-- a line that follows is no job, or is refused
later : (s : State) (o : Option Frame) → s.job.set ≡ true → MayStay s o ⊎ (o ≡ spelt_frame o)
unfolding play_before questions job_questions put_all judged spelt_frame spelt
later s none e = inr refl
later s (some (job b)) e = inl (refused {b = b} {n = 2} (rw e))
later s (some (inject c v h)) e = inr refl
later s (some (deliver k a r n)) e = inr refl
later s (some (work c)) e = inr refl
later s (some (checkpoint p)) e = inr refl
later s (some (crash p)) e = inr refl
later s (some (restart p)) e = inr refl
later s (some (show c)) e = inr refl
later s (some (withdraw c)) e = inr refl

all_stay : (s : State) (ls : List Line) → s.job.set ≡ true → Rewritten s ls ls
all_stay s [] e = nothing
all_stay s (l ∷ ls) e =
    let rest = all_stay (step_before s (frame l)).state ls (set_stays s (frame l) e) in
    elim (later s (frame l) e) [ inl m ↦ stays refl m rest | inr q ↦ line q rest ]

pub zero_buddy : ZeroBuddy
unfolding opened spelt_frame spelt spelt_out spelt_byte by_place next_machine step_before play_before begin_before job_before
zero_buddy = record {
  acceptable = λ b a. record {
    kind = same_kind b ∙ a.kind;
    whole = same_whole b ∙ a.whole;
    in_range = same_range b a.kind a.whole ∙ a.in_range;
  };
  same_job = λ b a. same_job b a.kind a.whole;
  same_answers = λ s ls ks r. same_answers s r;
  instance = λ ls. line refl (line refl (all_stay _ ls refl));
  instance_two = λ ls. stays refl (of_two refl) (all_stay _ ls refl);
  stored = λ s l k ls e h. line e (all_stay _ ls h);
  two_machines = two_machines;
}
