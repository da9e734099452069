-- What every list keeps of its numbers, frame by frame: the holes carried along are those read off the state, and no SN or TN passes 60,000.
use Rattle.std.specs.Prelude.{◌≡◌, refl, Bool, true, false, ◌&&◌, List, [], ℕ, ◌+◌, ◌≤◌, leb}
use Rattle.std.proofs.Common.{sym, ◌∙◌, subst, subst₂, arith, leb-true, le-leb}
use Rattle.std.proofs.Math.Option.{Option, some, none}
use Rattle.lists.specs.Tests.{either, true_not_false, and_r}
use Rattle.lists.specs.Map.{upd_ind}
use Rattle.lists.specs.Lists.{all_nil, all_append, keep_mem, find_some, remove1_mem}
use Rattle.lists.specs.Questions.{Yes}
use Rattle.protocol.specs.declared.Logged.{Logged}
use Rattle.protocol.specs.declared.Entry.{Entry}
use Rattle.protocol.specs.declared.Packet.{Packet}
use Rattle.protocol.specs.Parts.{Memory, State, number_limit, blank, start, on, up, at_home}
use Rattle.protocol.specs.Tickets.{mark_noted}
use Rattle.protocol.specs.Sending.{about}
use Rattle.protocol.specs.Working.{next_entry, worked_only, receivers_of, value_out, hops_out, work_next}
use Rattle.protocol.specs.Packets as packets
use Rattle.protocol.specs.Checkpoint as checkpoints
use Rattle.protocol.specs.Crash as crashes
use Rattle.protocol.specs.Restart as restarts
use Rattle.protocol.specs.Withdraw as withdrawals
use Rattle.protocol.specs.Frames as frames
use Rattle.protocol.specs.Frames.{Line, Frame}
use Rattle.protocol.specs.Job.{has_chare, new_memory, first_memory, begin}
use Rattle.protocol.specs.Questions as questions
use Rattle.protocol.specs.Step.{accept, crash_outcome, deliver_outcome, work_outcome, outcome}
use Rattle.protocol.specs.History.{is_accepted, state_after}
use Rattle.protocol.proofs.Recovery.Laws.Holes.{holes_of, no_hole, holes_work, holes_pruned, read_off}
use Rattle.protocol.proofs.Recovery.Laws.AtHome.{at_home_ind}
use Rattle.protocol.proofs.Recovery.Laws.Lookups.{next_entry_some}
use Rattle.protocol.proofs.Recovery.Laws.Pruned.{pruned_table, all_pruned}
use Rattle.protocol.proofs.Recovery.Laws.Restored.{Source, by_copy, by_log, by_note}
use Rattle.protocol.proofs.Recovery.Laws.Filled.{filled_table_source}
use Rattle.protocol.proofs.Recovery.Laws.Resends.{Cause, ask_here, data_here, ask_elsewhere, resends_mem}
use Rattle.protocol.proofs.Recovery.Along.{keep_along, settled}
use Rattle.protocol.proofs.Recovery.Holes.{Holes, no_holes, restart_holes, give, give_asked, give_sent, give_worked, change_holes, holes_after, HolesReadOff}
use Rattle.protocol.proofs.Recovery.Kept.{Fit, Notes, Small, marks_work, small_table, small_log, small_work, small_blank, small_first, Kept, kept_memory, kept_wire, kept_send, kept_sends, kept_arrive}

-- ---- frame by frame; whoever settles keeps its memory
kept_accept : {s : State} {h : Holes} → Kept s h → Kept (accept s).state h
unfolding accept
kept_accept {s} {h} k = subst (λ s. Kept s h) (sym (settled s)) (record { holes = k.holes; live = k.live; copy = k.copy; notes = k.notes; wire = k.wire })

kept_packet : {s : State} {h : Holes} → Kept s h → (q a r n : ℕ) (o : Option Packet) → questions.on_wire s q a r n ≡ o → Yes (questions.packet_questions s o)
    → Kept (deliver_outcome s q a r n o).state (give_asked s o h)
unfolding deliver_outcome accept give_asked questions.on_wire questions.packet_questions questions.ticket_fits questions.needs_ticket packets.deliver packets.entry_of give
kept_packet k q a r n none found y = kept_accept k
kept_packet {s} k q a r n (some x) found y =
    let (f, t) = k.wire x (find_some _ s.wire found).0 in
    let fits = y.1.0 in
    kept_accept (kept_arrive (kept_wire k (λ z i. k.wire z (remove1_mem _ s.wire i))) x f x.content t (λ e. leb-true _ _ (rw e at fits)))

kept_work : {s : State} {h : Holes} → Kept s h → (c : ℕ) (o : Option Entry) → next_entry (s.live c) ≡ o → Yes (questions.entry_questions s c o)
    → Kept (work_outcome s c o).state (give_worked s c o h)
unfolding work_outcome give_worked questions.entry_questions questions.put_to_sends work_next worked_only
kept_work k c none found y = kept_accept k
kept_work {s} k c (some e) found y =
    kept_accept (kept_sends (kept_memory k c (small_work (k.live c) e (next_entry_some (s.live c) found).0) (holes_work (s.live c) e found)) c (receivers_of s c e) (value_out s c e) (hops_out e)
    (and_r (leb ((s.live c).height + 1) number_limit && leb (questions.mark_after (s.live c) e) number_limit) _ y.1.0))

kept_prune : {s : State} {h : Holes} → Kept s h → (p : ℕ) → Kept (checkpoints.prune s p) h
unfolding checkpoints.prune checkpoints.pruned mark_noted pruned_table
kept_prune {s} {h} k p = record {
  holes = at_home_ind (λ c m. (t : ℕ) → h c t ≡ holes_of m t) s.job p _ s.live (λ c _ t. k.holes c t ∙ sym (holes_pruned (s.live c) t)) (λ c _. k.holes c);
  live = at_home_ind (λ _. Small) s.job p _ s.live
      (λ c _. small_table (k.live c) (all_pruned _ (s.live c).height (s.live c).table (λ e i _. (k.live c).table e i))) (λ c _. k.live c);
  copy = k.copy;
  notes = k.notes;
  wire = k.wire;
}

kept_copy : {s : State} {h : Holes} → Kept s h → (p : ℕ) → Kept (checkpoints.fix_copy s p) h
unfolding checkpoints.fix_copy
kept_copy {s} k p = record {
  holes = k.holes;
  live = k.live;
  copy = at_home_ind (λ _. Small) s.job p _ s.copy (λ c _. k.live c) (λ c _. k.copy c);
  notes = upd_ind (λ _. Notes) p [] s.notes (all_nil _) (λ q _. k.notes q);
  wire = k.wire;
}

kept_clean : {s : State} {h : Holes} → Kept s h → (p : ℕ) → Kept (checkpoints.clean_logs s p) h
unfolding checkpoints.clean_logs checkpoints.clean_log
kept_clean {s} k p = record {
  holes = λ c t. either (up s (s.job.home c)) (λ e. rw e (k.holes c t)) (λ e. rw e (k.holes c t));
  live = λ c. either (up s (s.job.home c)) (λ e. rw e (small_log (k.live c) (λ x i. (k.live c).log x (keep_mem (checkpoints.stays_in_log s p) (s.live c).log i).0))) (λ e. rw e (k.live c));
  copy = k.copy;
  notes = k.notes;
  wire = k.wire;
}

-- on machine p the sets become f and the memories m
holes_home : {s : State} {h : Holes} → Kept s h → (p : ℕ) (f : Holes) (m : ℕ → Memory) → ((c t : ℕ) → f c t ≡ holes_of (m c) t)
    → (c t : ℕ) → at_home s.job p (λ c _. f c) h c t ≡ holes_of (at_home s.job p (λ c _. m c) s.live c) t
unfolding at_home
holes_home {s} k p f m same c t = either (on s.job p c) (λ e. rw e (same c t)) (λ e. rw e (k.holes c t))

kept_crash : {s : State} {h : Holes} → Kept s h → (p : ℕ) → Kept (crashes.crash s p) (at_home s.job p (λ c g t. false) h)
unfolding crashes.crash blank no_holes
kept_crash {s} k p = record {
  holes = holes_home k p no_holes (λ c. blank) (λ c t. sym (no_hole 0 [] t));
  live = at_home_ind (λ _. Small) s.job p _ s.live (λ c _. small_blank) (λ c _. k.live c);
  copy = λ c. either (crashes.kept_by s.job p (s.job.home c)) (λ e. rw e small_blank) (λ e. rw e (k.copy c));
  notes = λ q. either (crashes.kept_by s.job p q) (λ e. rw e (all_nil _)) (λ e. rw e (k.notes q));
  wire = λ y i. k.wire y (keep_mem (crashes.survives s.job p) s.wire i).0;
}

-- a restored entry has its numbers from the copy, from a log or from a note
source_fits : {s : State} {h : Holes} → Kept s h → {p c a n t : ℕ} → Source s p c a n t → Fit n t
source_fits k {c = c} (by_copy r) = subst₂ Fit r.of_sn r.of_tn ((k.copy c).table r.ticket r.member)
source_fits k (by_log r) = subst₂ Fit r.of_sn r.of_tn ((k.live r.place).log r.logged r.member)
source_fits k {p = p} (by_note r) = subst₂ Fit r.of_sn r.of_tn (k.notes p r.note r.member)

small_restored : {s : State} {h : Holes} → Kept s h → (p c : ℕ) → Small (restarts.restored s p c)
unfolding restarts.restored
small_restored {s} k p c = record { marks = (k.copy c).marks; table = λ e i. source_fits k (filled_table_source s p c i); log = (k.copy c).log }

kept_restore : {s : State} {h : Holes} → Kept s h → (p : ℕ) → Kept (restarts.restore s p) (at_home s.job p (λ c g. restart_holes (restarts.restored s p c)) h)
unfolding restarts.restore restarts.restored restart_holes
kept_restore {s} k p = record {
  holes = holes_home k p (λ c. restart_holes (restarts.restored s p c)) (restarts.restored s p) (λ c t. refl);
  live = at_home_ind (λ _. Small) s.job p _ s.live (λ c _. small_restored k p c) (λ c _. k.live c);
  copy = k.copy;
  notes = k.notes;
  wire = λ y i. k.wire y (keep_mem _ s.wire i).0;
}

resent_fits : {s : State} {p q : ℕ} {x : Logged} {y : Packet} → x.message.sn ≤ number_limit → Cause s p q x y → Fit y.sn (packets.tn_of y.content)
unfolding about packets.tn_of
resent_fits n (ask_here _ _ _ e) = subst (λ (y : Packet). Fit y.sn (packets.tn_of y.content)) (sym e) (n, omega arith)
resent_fits n (data_here _ _ _ e) = subst (λ (y : Packet). Fit y.sn (packets.tn_of y.content)) (sym e) (n, omega arith)
resent_fits n (ask_elsewhere _ _ _ e) = subst (λ (y : Packet). Fit y.sn (packets.tn_of y.content)) (sym e) (n, omega arith)

kept_restart : {s : State} {h : Holes} → Kept s h → (p : ℕ) → Kept (restarts.restart s p) (at_home s.job p (λ c g. restart_holes (restarts.restored s p c)) h)
unfolding restarts.restart
kept_restart {s} k p =
    let r = kept_restore k p in
    kept_wire r (all_append (restarts.restore s p).wire r.wire
    (λ y i. let z = resends_mem (restarts.restore s p) p i in resent_fits ((r.live z.place).log z.logged z.member).0 z.cause))

kept_withdraw : {s : State} {h : Holes} → Kept s h → (c n : ℕ) → Kept (withdrawals.take_back s c n) h
unfolding withdrawals.take_back
kept_withdraw {s} k c n =
    let m = k.live 0 in
    kept_wire (kept_memory k 0 (record { marks = m.marks; table = m.table; log = λ x i. m.log x (remove1_mem _ (s.live 0).log i) }) (λ t. refl))
    (λ y i. k.wire y (keep_mem _ s.wire i).0)

kept_job : (b : List ℕ) → Kept (begin b) no_holes
unfolding begin first_memory new_memory blank no_holes
kept_job b = record {
  holes = λ c t. either (has_chare b c) (λ e. rw e (sym (no_hole 0 [] t))) (λ e. rw e (sym (no_hole 0 [] t)));
  live = small_first b;
  copy = small_first b;
  notes = λ p. all_nil _;
  wire = all_nil _;
}

kept_crashed : {s : State} {h : Holes} → Kept s h → (p : ℕ) (b : Bool) → is_accepted (crash_outcome s p b).answer ≡ true
    → Kept (crash_outcome s p b).state (at_home s.job p (λ c g t. false) h)
unfolding crash_outcome is_accepted
kept_crashed k p true a = kept_accept (kept_crash k p)
kept_crashed k p false a = true_not_false a refl

kept_frame : (s : State) (h : Holes) (f : Frame) → Kept s h → Yes (questions.questions s f) → is_accepted (outcome s f).answer ≡ true → Kept (outcome s f).state (change_holes s h f)
unfolding outcome change_holes give_sent questions.questions questions.inject_questions questions.deliver_questions questions.work_questions accept checkpoints.checkpoint withdrawals.withdraw
kept_frame s h (frames.job b) k y a = kept_accept (kept_job b)
kept_frame s h (frames.inject c value hops) k y a = kept_accept (kept_send k 0 c value hops y.1.1.1.0)
kept_frame s h (frames.deliver q x r n) k y a = kept_packet k q x r n (questions.on_wire s q x r n) refl y.1.1.1.1
kept_frame s h (frames.work c) k y a = kept_work k c (next_entry (s.live c)) refl y.1.1.1.1
kept_frame s h (frames.checkpoint p) k y a = kept_accept (kept_clean (kept_copy (kept_prune k p) p) p)
kept_frame s h (frames.crash p) k y a = kept_crashed k p (crashes.has_cover s p) a
kept_frame s h (frames.restart p) k y a = kept_accept (kept_restart k p)
kept_frame s h (frames.show c) k y a = kept_accept k
kept_frame s h (frames.withdraw c) k y a = kept_accept (kept_withdraw k c _)

-- ---- a list begun before any job
kept_after : (moment : List Line) → Kept (state_after moment) (holes_after moment)
unfolding holes_after state_after start no_holes blank
kept_after moment = keep_along change_holes Kept kept_frame (λ s h k. record { holes = k.holes; live = k.live; copy = k.copy; notes = k.notes; wire = k.wire }) start no_holes moment
    (record { holes = λ c t. sym (no_hole 0 [] t); live = λ c. small_blank; copy = λ c. small_blank; notes = λ p. all_nil _; wire = all_nil _ })

-- Holes are what is read off `highest_at_restart`, height and table.
pub holes_read_off : HolesReadOff
holes_read_off moment c = read_off ((state_after moment).live c) ((kept_after moment).holes c)

-- what question 7 asks of a work beside its sends
pub record WorkFits (s : State) (c : ℕ) (e : Entry) : Type 0 where
  pub height : leb ((s.live c).height + 1) number_limit ≡ true
  pub mark : leb (questions.mark_after (s.live c) e) number_limit ≡ true

-- For every list of lines: where question 6 of a work finds an entry, these two are true. So an 07 of a work comes from its sends.
pub work_fits : (moment : List Line) (c : ℕ) (e : Entry) → next_entry ((state_after moment).live c) ≡ some e → WorkFits (state_after moment) c e
unfolding questions.mark_after
work_fits moment c e found =
    let m = (kept_after moment).live c in
    let (i, q) = next_entry_some ((state_after moment).live c) found in
    let (n, t) = m.table e i in
    record { height = le-leb _ number_limit (subst (◌≤ number_limit) q t); mark = le-leb _ number_limit (marks_work e.sn (m.marks e.sender) n).mark }
