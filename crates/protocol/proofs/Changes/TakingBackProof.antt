-- Why an injection taken back leaves nothing: its SN is new, so no log and no packet had it, and the state was settled before.
use Rattle.std.specs.Prelude.{◌≡◌, true, false, ◌&&◌, List, [], ◌∷◌, ◌++◌, ℕ, ◌+◌, ◌-◌, eqb}
use Rattle.std.proofs.Math.Path.{refl, sym, ap}
use Rattle.std.proofs.Common.{◌∙◌, subst, inl, append-nil}
use mathlib.Core.List.Memᴰ
use mathlib.Core.List.Memᴰ.{head as here}
use Rattle.std.proofs.Math.Option.{some}
use native.Mathlib.Omega.{arith}
use borrow.Author.Tests.{eqb-true, eq-eqb}
use Rattle.lists.specs.Tests.{either, and_i, and4, true_not_false}
use Rattle.lists.specs.Map.{upd, upd_same, upd_other, upd_upd, upd_self}
use Rattle.lists.specs.Lists.{◌∈◌, All, allb_ext, anyb, true_anyb, keep, keep_mem, keep_append, keep_all, remove1_snoc}
use Rattle.lists.specs.Questions.{Result, ok, refuse, put_all, put_ok}
use Rattle.protocol.specs.declared.Content.TheVariants.{Ask as ASK}
use Rattle.protocol.specs.Parts.{Memory, State, start, every_chare, on, is_catching_up}
use Rattle.protocol.specs.Setters.{with_log, with_sn}
use Rattle.protocol.specs.Sending.{is_local, about, put, next_message, log_message, send_remote, send_message, send}
use Rattle.protocol.specs.Packets.{kind, is_named, for_receiver}
use Rattle.protocol.specs.Restart.{has_caught_up, is_done, settle}
use Rattle.protocol.specs.Withdraw.{last_sn, is_other, desk_without, take_back, withdraw}
use Rattle.protocol.specs.Frames as frames
use Rattle.protocol.specs.Frames.{Line, Frame, frame}
use Rattle.protocol.specs.Questions.{questions}
use Rattle.protocol.specs.Step.{Outcome, accept, outcome, judged, play, step_frame, step, play_all}
use Rattle.protocol.specs.CrashFree.{Injection}
use Rattle.protocol.specs.History.{History, no_history, is_to, without_last_to, recorded, is_accepted, record_frame, record_line, history_from, state_after, history_after}
use Rattle.protocol.proofs.Recovery.Run.Facts.{RunOk, sent_below}
use Rattle.protocol.proofs.Recovery.Laws.Changes.{Key}
use Rattle.protocol.proofs.Recovery.Laws.Lookups.{tests_logged}
use Rattle.protocol.proofs.Recovery.Frames.Job.{chare_positive}
use Rattle.protocol.proofs.Recovery.Frames.Waiting.{desk_live, desk_counts}
use Rattle.protocol.proofs.Recovery.Conclusion.{carried_ok}
use Rattle.protocol.proofs.Recovery.Settled.{Settled, settled_same, settled_after}
use Rattle.protocol.proofs.Recovery.Theorem.{Kept, kept_after, run_append, history_append}
use Rattle.protocol.specs.Cases.Computing.{opened, opened_history}
use Rattle.protocol.specs.Changes.TakingBack.{Both, TakingBack}

-- the last injection to c is the one just made
last_out : (c : ℕ) (l : List Injection) (i : Injection) → i.chare ≡ c → without_last_to c (l ++ (i ∷ [])) ≡ l
unfolding without_last_to anyb is_to
last_out c [] i e = rw (eq-eqb i.chare c e)
last_out c (k ∷ l) i e =
    let later : anyb (is_to c) (l ++ (i ∷ [])) ≡ true = true_anyb (is_to c) (Memᴰ.append_right l (here refl)) (eq-eqb i.chare c e) in
    rw later (ap (k ∷◌) (last_out c l i e))

-- ---- one state
module _ {s : State} {h : History} (k : Kept s h) (c value hops : ℕ) where
  abbrev n : ℕ
  n = (s.live 0).sn c + 1

  ok_run : RunOk s.job k.carried.run
  ok_run = carried_ok k.carried

  -- no logged message has the new SN
  log_free : All (λ y. for_receiver c n y ≡ false) (s.live 0).log
  log_free y i = either (for_receiver c n y)
      (λ e.
      let live = desk_live k.carried.good in
      let q = (tests_logged c n).yes_key y e in
      let b = (k.carried.good.inv.logs 0 (inl refl)).counted y (subst (λ (m : Memory). y ∈ m.log) (sym live) i) in
      let m = ap (λ (m : Memory). m.sn y.message.receiver) live in
      let r = ap (λ (k : Key). (s.live 0).sn k.0) q in
      let d = ap (λ (k : Key). k.1) q in
      absurd (omega arith))
      (λ e. e)

  -- no packet either
  wire_free : All (λ z. is_other c n z ≡ true) s.wire
  unfolding is_other is_named
  wire_free z i = either (is_named 1 0 c n z)
      (λ e.
      let (_, a, b, d) = and4 (eqb (kind z.content) 1) (eqb z.sender 0) (eqb z.receiver c) (eqb z.sn n) e in
      let g = (k.carried.good.inv.wire z i).key in
      let h = sent_below ok_run 0 c g.message g.sent (g.of_sender ∙ eqb-true z.sender 0 a) (g.of_receiver ∙ eqb-true z.receiver c b) in
      let m = ap (λ f. f c) (desk_counts k.carried.good) in
      let q = g.of_sn ∙ eqb-true z.sn n d in
      absurd (omega arith))
      (λ e. rw e)

  -- the desk with the message, and without it again
  abbrev desk : Memory
  desk = with_log (with_sn (s.live 0) (upd c n (s.live 0).sn)) ((s.live 0).log ++ (record { message = next_message s 0 c value hops; tn = 0 } ∷ []))

  desk_back : desk_without desk c n ≡ s.live 0
  unfolding next_message for_receiver
  desk_back =
      let m = s.live 0 in
      let one : n - 1 ≡ m.sn c = omega arith in
      let p = upd_upd c (n - 1) n m.sn ∙ ap (λ k. upd c k m.sn) one ∙ upd_self c m.sn in
      let q = remove1_snoc (for_receiver c n) m.log _ log_free (and_i _ _ (eq-eqb c c refl) (eq-eqb n n refl)) in
      λ i. record { state = m.state; height = m.height; sn = p i; mark = m.mark; window = m.window; highest_at_restart = m.highest_at_restart; table = m.table; log = q i }

  wire_back : keep (is_other c n) (s.wire ++ (about (next_message s 0 c value hops) ASK ∷ [])) ≡ s.wire
  unfolding keep is_other is_named about next_message kind
  wire_back =
      keep_append (is_other c n) s.wire _
      ∙ rw (keep_all (is_other c n) s.wire wire_free, eq-eqb c c refl, eq-eqb n n refl) (append-nil s.wire)

  abbrev sent : State
  sent = send s 0 c value hops

  at_desk : sent.live 0 ≡ desk
  unfolding send send_message send_remote put log_message is_local next_message
  at_desk = upd_same 0 _ s.live

  whole : take_back sent c n ≡ s
  unfolding take_back send send_message send_remote put log_message is_local next_message
  whole =
      let p = ap (λ m. upd 0 (desk_without m c n) (upd 0 desk s.live)) at_desk ∙ ap (λ m. upd 0 m (upd 0 desk s.live)) desk_back ∙ upd_upd 0 (s.live 0) desk s.live ∙ upd_self 0 s.live in
      let q = wire_back in
      λ i. record { job = s.job; lost = s.lost; status = s.status; target = s.target; live = p i; held = s.held; copy = s.copy; notes = s.notes; wire = q i }

  pub taken_back : withdraw (send s 0 c value hops) c ≡ s
  unfolding withdraw last_sn
  taken_back = ap (take_back sent c) (ap (λ (m : Memory). m.sn c) at_desk ∙ upd_same c n (s.live 0).sn) ∙ whole

  -- the desk is on no machine, so nobody is done through it
  same_done : (p : ℕ) → is_done sent p ≡ is_done s p
  unfolding is_done has_caught_up send send_message send_remote put log_message is_local next_message
  same_done p = ap (is_catching_up (s.status p) &&◌) (allb_ext (has_caught_up sent) (has_caught_up s) (keep (on s.job p) every_chare) (λ a i.
      let b = chare_positive (keep_mem (on s.job p) every_chare i).0 in
      rw (upd_other {A = Memory} 0 _ s.live a (λ e. omega arith))))

  sent_settled : Settled s → Settled sent
  unfolding send send_message send_remote put log_message is_local next_message
  sent_settled h p i = same_done p ∙ h p i

-- ---- one accepted frame
module _ (s : State) (f : Frame) where
  accepted_judged : (r : Result Outcome) → put_all (questions s f) (outcome s f) ≡ r → is_accepted (judged s r).answer ≡ true → judged s r ≡ outcome s f
  unfolding judged is_accepted
  accepted_judged (refuse n) e a = true_not_false a refl
  accepted_judged (ok o) e a = sym (put_ok (questions s f) (outcome s f) o e).1

  accepted_step : (l : Line) → frame l ≡ some f → is_accepted (step s l).answer ≡ true → step s l ≡ outcome s f
  unfolding step step_frame play
  accepted_step l e a =
      ap (step_frame s) e ∙ accepted_judged (put_all (questions s f) (outcome s f)) refl (subst (λ o. is_accepted (step_frame s o).answer ≡ true) e a)

  accepted_record : (h : History) (l : Line) → frame l ≡ some f → is_accepted (step s l).answer ≡ true → record_line s h l ≡ recorded s h f
  unfolding record_line record_frame
  accepted_record h l e a = ap (λ o. record_frame s h o (is_accepted (step s l).answer)) e ∙ ap (record_frame s h (some f)) a

-- ---- both
module _ (moment : List Line) (first second : Line) (b : Both moment first second) where
  abbrev c : ℕ
  c = b.chare

  abbrev s : State
  s = state_after moment

  abbrev t : State
  t = send s 0 c b.value b.hops

  first_state : (step s first).state ≡ t
  unfolding outcome accept
  first_state = ap (λ o. o.state) (accepted_step s (frames.inject c b.value b.hops) first b.injects b.injected)
      ∙ settled_same t (sent_settled (kept_after moment) c b.value b.hops (settled_after moment))

  between : state_after (moment ++ (first ∷ [])) ≡ t
  unfolding state_after play_all
  between = run_append start moment (first ∷ []) ∙ first_state

  accepted_second : is_accepted (step t second).answer ≡ true
  accepted_second = subst (λ s. is_accepted (step s second).answer ≡ true) between b.withdrawn

  second_state : (step t second).state ≡ s
  unfolding outcome accept
  second_state = ap (λ o. o.state) (accepted_step t (frames.withdraw c) second b.withdraws accepted_second)
      ∙ ap settle (taken_back (kept_after moment) c b.value b.hops) ∙ settled_same s (settled_after moment)

  same_state : state_after (moment ++ (first ∷ second ∷ [])) ≡ state_after moment
  unfolding state_after play_all
  same_state = run_append start moment (first ∷ second ∷ []) ∙ ap (λ s. (step s second).state) first_state ∙ second_state

  same_history : history_after (moment ++ (first ∷ second ∷ [])) ≡ history_after moment
  unfolding history_after history_from state_after play_all recorded
  same_history =
      let h = history_after moment in
      let i : Injection = record { chare = c; value = b.value; hops = b.hops } in
      let l = last_out c h.injections i refl in
      history_append start no_history moment (first ∷ second ∷ [])
      ∙ ap (λ s'. record_line s' (record_line s h first) second) first_state
      ∙ ap (λ k. record_line t k second) (accepted_record s (frames.inject c b.value b.hops) h first b.injects b.injected)
      ∙ accepted_record t (frames.withdraw c) (recorded s h (frames.inject c b.value b.hops)) second b.withdraws accepted_second
      ∙ (λ k. record { injections = l k; sequence = h.sequence; saved = h.saved })

pub taking_back : TakingBack
unfolding opened opened_history state_after
taking_back = record {
  same_state = same_state;
  same_history = same_history;
  instance = record { chare = 1; value = 3; hops = 1; injects = refl; withdraws = refl; injected = refl; withdrawn = refl };
}
