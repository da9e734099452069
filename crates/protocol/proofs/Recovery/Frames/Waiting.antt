-- What waits at the desk: a message in its log without a TN is not worked. The desk is always up, so its log remembers the ticket of
-- every message that it sent and that was worked.
use Rattle.std.specs.Prelude.{◌≡◌, refl, Bool, ◌≢◌, List, [], ◌∷◌, ℕ, ◌≤◌, ◌<◌, length}
use Rattle.std.proofs.Common.{sym, ap, ◌∙◌, inl, inr, arith}
use Rattle.std.proofs.Math.Path.{subst}
use Rattle.std.proofs.Math.Bool.{true, false}
use Rattle.std.proofs.Math.Option.{Option, some, none}
use Rattle.lists.specs.Tests.{either, lt?}
use Rattle.lists.specs.Map.{upd, upd_ind, upd_same, upd_other}
use Rattle.lists.specs.Lists.{◌∈◌, all_snoc, keep_mem, remove1_mem, Prefix}
use Rattle.lists.specs.Keys.{uniq}
use Rattle.protocol.specs.declared.Message.{Message}
use Rattle.protocol.specs.declared.Logged.{Logged}
use Rattle.protocol.specs.declared.Entry.{Entry}
use Rattle.protocol.specs.declared.Packet.{Packet}
use Rattle.protocol.specs.declared.Content.{Content}
use Rattle.protocol.specs.declared.Content.TheVariants.{Ask as ASK, GrantOld as GRANT-old, GrantReceived as GRANT-received, GrantNew as GRANT-new, Data as DATA, Note as NOTE, Ack as ACK}
use Rattle.protocol.specs.declared.Lookup.{Lookup}
use Rattle.protocol.specs.declared.Lookup.TheVariants.{Missing, Ticketed, Unticketed}
use Rattle.protocol.specs.declared.Status.TheVariants.{Up, Down}
use Rattle.protocol.specs.Parts.{Memory, State, up}
use Rattle.protocol.specs.Setters.{with_memory, with_table}
use Rattle.protocol.specs.Sending.{is_local, put, next_message, log_message, send_remote, send_local, send_message, send, send_all}
use Rattle.protocol.specs.Working.{worked_only, work_entry, work_next}
use Rattle.protocol.specs.Packets.{reply, new_table, new_log, ask, grant_old, grant_received, grant_new, data_in, store_note, ack, arrive, deliver}
use Rattle.protocol.specs.Checkpoint.{prune, pruned, fix_copy, stays_in_log, clean_log, clean_logs, checkpoint}
use Rattle.protocol.specs.Crash.{crash}
use Rattle.protocol.specs.Restart.{restore, restart}
use Rattle.protocol.specs.Withdraw.{take_back}
use Rattle.protocol.specs.CrashFree.{Run}
use Rattle.protocol.proofs.Recovery.Run.Facts.{RunOk, worked_sent, sent_below}
use Rattle.protocol.proofs.Recovery.Laws.Marks.{In}
use Rattle.protocol.proofs.Recovery.Laws.AtHome.{at_home_ind, at_home_off}
use Rattle.protocol.proofs.Recovery.Laws.Lookups.{logged_key}
use Rattle.protocol.proofs.Recovery.Laws.Changes.{pair_eq}
use Rattle.protocol.proofs.Recovery.Laws.Places.{in_place, place_in, place_bound}
use Rattle.protocol.proofs.Recovery.Laws.Status.{up_not_down}
use Rattle.protocol.proofs.Recovery.Run.Grown.{place_back}
use Rattle.protocol.proofs.Recovery.Invariant.World.{World, Pending, nothing_pending, LoggedAs}
use Rattle.protocol.proofs.Recovery.Invariant.Clauses.{Chare, Waiting, InvP, Fits}
use Rattle.protocol.proofs.Recovery.Invariant.Counts.{desk_now}
use Rattle.protocol.proofs.Recovery.Invariant.Ticks.{tick_entered}
use Rattle.protocol.proofs.Recovery.Invariant.Good.{Good}
use Rattle.protocol.proofs.Recovery.Invariant.Senders.{key_receiver}
use Rattle.protocol.proofs.Recovery.Frames.Contents.{tick_some}
use Rattle.protocol.proofs.Recovery.Steps.Log.{all_ticketed}

-- in a run that has worked the same
pub same_waits : {x y : Run} {l : List Logged} → x.worked ≡ y.worked → Waiting x l → Waiting y l
same_waits same h = record { unworked = λ z i e w. h.unworked z i e (subst (λ f. In (f z.message.receiver) 0 z.message.sn) (sym same) w) }

-- a log that has some of the messages
pub fewer_wait : {x : Run} {l k : List Logged} → ((y : Logged) → y ∈ k → y ∈ l) → Waiting x l → Waiting x k
fewer_wait old h = record { unworked = λ y i. h.unworked y (old y i) }

-- the memory of c becomes m
memory_waits : {x : Run} (s : State) (c : ℕ) (m : Memory) → (Waiting x (s.live c).log → Waiting x m.log) → Waiting x (s.live 0).log → Waiting x (upd c m s.live 0).log
memory_waits {x} s c m new h = upd_ind (λ a m. a ≡ 0 → Waiting x m.log) c m s.live
    (λ e. new (subst (λ a. Waiting x (s.live a).log) (sym e) h)) (λ a _ e. subst (λ a. Waiting x (s.live a).log) (sym e) h) 0 refl

-- the desk is local to nobody
desk_remote : (s : State) (r : ℕ) → is_local s.job 0 r ≡ false
unfolding is_local
desk_remote s r = refl

-- ---- the desk as the invariant has it
module _ {p : Pending} {s : State} {x : Run} {stable : ℕ → ℕ} (g : Good p s x stable) where
  pub desk_up : s.status (s.job.home 0) ≡ Up
  desk_up = ap s.status g.inv.job.desk ∙ g.inv.machines.desk

  pub desk_not_down : s.status (s.job.home 0) ≢ Down
  desk_not_down d = up_not_down (sym desk_up ∙ d)

  pub desk_live : g.mem 0 ≡ s.live 0
  desk_live = g.linked.up 0 desk_not_down

  -- the run has gone on: what it worked besides is remembered in the log
  pub waiting_grown : (o : Run) → ((a : ℕ) → Prefix (o.worked a) (x.worked a)) → ((a : ℕ) → Chare s.job a → stable a ≤ length (o.worked a))
      → Waiting o (s.live 0).log → Waiting x (s.live 0).log
  waiting_grown o grows reached h = record {
    unworked = λ z i no_tn w.
        let r = z.message.receiver in
        let n = z.message.sn in
        let log = g.inv.logs 0 (inl refl) in
        let j = subst (λ (m : Memory). z ∈ m.log) (sym desk_live) i in
        let chare = g.inv.domain.receiver z.message (log.sent z j) in
        let (t, q) = in_place (x.worked r) w in
        elim (lt? (stable r) t) [
          | inl above ↦
              let e = tick_entered (g.inv.tables r chare) above (inl q) in
              let remote = subst (λ a. is_local s.job a r ≡ false) (sym e.of_sender) (desk_remote s r) in
              let top = (place_bound q).1 in
              let y = g.inv.remembered r chare e.entry e.member (subst (stable r <◌) (sym e.of_tn) above) remote
              (ap (λ a. s.status (s.job.home a)) e.of_sender ∙ desk_up) (inr (subst (◌≤ length (x.worked r)) (sym e.of_tn) top)) in
              let k = subst (λ a. LoggedAs (g.mem a).log r e.entry.sn e.entry.tn) e.of_sender y in
              let same = uniq logged_key log.keys k.member j (pair_eq k.of_receiver (k.of_sn ∙ e.of_sn)) in
              let first = (place_bound q).0 in
              let tn = sym e.of_tn ∙ sym k.of_tn ∙ ap (λ (y : Logged). y.tn) same ∙ no_tn in
              absurd (omega arith)
          | inr low ↦ h.unworked z i no_tn (place_in (place_back (grows r) q (let b = reached r chare in omega arith)))
        ];
  }

pub desk_counts : {s : State} {x : Run} {stable : ℕ → ℕ} (g : Good nothing_pending s x stable) → (s.live 0).sn ≡ x.sn 0
desk_counts {s} g = ap (λ (m : Memory). m.sn) (sym (desk_live g)) ∙ desk_now g.inv.images

-- ---- sending
-- whoever is not the desk leaves its log
log_stays : (s : State) (m : Message) (t : ℕ) → m.sender ≢ 0 → ((log_message s m t).live 0).log ≡ (s.live 0).log
unfolding log_message
log_stays s m t d = ap (λ (m : Memory). m.log) (upd_other m.sender _ s.live 0 (λ e. d (sym e)))

table_stays : (s : State) (c : ℕ) (l : List Entry) → ((with_memory s c (with_table (s.live c) l)).live 0).log ≡ (s.live 0).log
table_stays s c l = upd_ind (λ a (m : Memory). m.log ≡ (s.live a).log) c _ s.live refl (λ a _. refl) 0

local_stays : (s : State) (m : Message) → m.sender ≢ 0 → (o : Option Entry) → ((send_local s m o).live 0).log ≡ (s.live 0).log
unfolding send_local put
local_stays s m d (some e) = log_stays _ m e.tn d ∙ table_stays s m.receiver _
local_stays s m d none = log_stays _ m _ d ∙ table_stays s m.receiver _

send_stays : (s : State) (a b value hops : ℕ) → a ≢ 0 → ((send s a b value hops).live 0).log ≡ (s.live 0).log
unfolding send send_message send_remote put next_message
send_stays s a b value hops d =
    let m = next_message s a b value hops in
    either (is_local s.job a b) (λ e. rw e (local_stays s m d _)) (λ e. rw e (log_stays s m 0 d))

sends_stay : (s : State) (a : ℕ) (l : List ℕ) (value hops : ℕ) → a ≢ 0 → ((send_all s a l value hops).live 0).log ≡ (s.live 0).log
unfolding send_all
sends_stay s a [] value hops d = refl
sends_stay s a (b ∷ l) value hops d = sends_stay (send s a b value hops) a l value hops d ∙ send_stays s a b value hops d

pub work_stays : (s : State) (c : ℕ) (e : Entry) → c ≢ 0 → ((work_next s c e).live 0).log ≡ (s.live 0).log
unfolding work_next worked_only work_entry
work_stays s c e d = sends_stay (worked_only s c e) c _ _ _ d ∙ upd_ind (λ a (m : Memory). m.log ≡ (s.live a).log) c _ s.live refl (λ a _. refl) 0

-- an injection: its SN is new
pub inject_waits : {s : State} {x : Run} {stable : ℕ → ℕ} → RunOk s.job x → Good nothing_pending s x stable → (r value hops : ℕ)
    → Waiting x (s.live 0).log → Waiting x ((send s 0 r value hops).live 0).log
unfolding send send_message send_remote put next_message log_message is_local
inject_waits {s} {x} ok g r value hops h =
    rw (upd_same {A = Memory}) (record {
      unworked = all_snoc (s.live 0).log h.unworked (λ _ w.
          let b = sent_below ok 0 r w.message (worked_sent ok r w.message w.member) w.of_sender (ok.to r w.message w.member) in
          let c = ap (λ f. f r) (desk_counts g) in
          let e = w.of_sn in
          omega arith);
    })

-- ---- delivering; a GRANT that has a TN has a number
abbrev Positive : Content → Type 0
Positive ASK = Unit {0}
Positive GRANT-old = Unit {0}
Positive (GRANT-received t) = t ≢ 0
Positive (GRANT-new t) = t ≢ 0
Positive (DATA v h) = Unit {0}
Positive (NOTE t) = Unit {0}
Positive ACK = Unit {0}

fits_positive : {p : Pending} {w : World} → InvP p w → (s r n : ℕ) (c : Content) → Chare w.job r → Fits w s r n c → Positive c
fits_positive inv s r n ASK k f = tt
fits_positive inv s r n GRANT-old k f = tt
fits_positive inv s r n (GRANT-received t) k f = tick_some inv k f.1
fits_positive inv s r n (GRANT-new t) k f = tick_some inv k f.1
fits_positive inv s r n (DATA v h) k f = tt
fits_positive inv s r n (NOTE t) k f = tt
fits_positive inv s r n ACK k f = tt

module _ {x : Run} (s : State) (y : Packet) (h : Waiting x (s.live 0).log) where
  table_waits : (l : List Entry) → Waiting x ((new_table s y.receiver l).live 0).log
  unfolding new_table
  table_waits l = memory_waits s y.receiver _ (λ k. k) h

  ask_waits : (o : Option Entry) (b : Bool) → Waiting x ((ask s y o b).live 0).log
  unfolding ask reply put
  ask_waits (some e) b = h
  ask_waits none true = h
  ask_waits none false = table_waits _

  old_waits : (o : Lookup) → Waiting x ((grant_old s y o).live 0).log
  unfolding grant_old new_log
  old_waits Missing = h
  old_waits Ticketed = h
  old_waits (Unticketed m) = memory_waits s y.sender _ (fewer_wait (λ z i. remove1_mem _ (s.live y.sender).log i)) h

  received_waits : (t : ℕ) → t ≢ 0 → (o : Lookup) → Waiting x ((grant_received s y t o).live 0).log
  unfolding grant_received new_log
  received_waits t d Missing = h
  received_waits t d Ticketed = h
  received_waits t d (Unticketed m) = memory_waits s y.sender _ (λ k. record { unworked = all_ticketed y.receiver y.sn t (s.live y.sender).log k.unworked (λ z i e q. absurd (d q)) }) h

  new_waits : (t : ℕ) → t ≢ 0 → (o : Lookup) → Waiting x ((grant_new s y t o).live 0).log
  unfolding grant_new reply put
  new_waits t d Missing = h
  new_waits t d Ticketed = h
  new_waits t d (Unticketed m) = received_waits t d (Unticketed m)

  data_waits : (v n : ℕ) (o : Option Entry) → Waiting x ((data_in s y v n o).live 0).log
  unfolding data_in
  data_waits v n none = h
  data_waits v n (some e) = either e.received (λ q. rw q h) (λ q. rw q (table_waits _))

  arrive_waits : (c : Content) → Positive c → Waiting x ((arrive s y c).live 0).log
  unfolding arrive store_note ack reply put
  arrive_waits ASK d = ask_waits _ _
  arrive_waits GRANT-old d = old_waits _
  arrive_waits (GRANT-received t) d = received_waits t d _
  arrive_waits (GRANT-new t) d = new_waits t d _
  arrive_waits (DATA v n) d = data_waits v n _
  arrive_waits (NOTE t) d = h
  arrive_waits ACK d = table_waits _

pub deliver_waits : {s : State} {x : Run} {stable : ℕ → ℕ} → Good nothing_pending s x stable → (k a r n : ℕ) (y : Packet) → y ∈ s.wire
    → Waiting x (s.live 0).log → Waiting x ((deliver s k a r n y).live 0).log
unfolding deliver
deliver_waits g k a r n y i h =
    let p = g.inv.wire y i in
    arrive_waits _ y h y.content (fits_positive g.inv y.sender y.receiver y.sn y.content (key_receiver g.inv.domain p.key) p.fits)

-- ---- the other frames leave the log, or drop some of it
pub checkpoint_waits : {x : Run} (s : State) (p : ℕ) → Waiting x (s.live 0).log → Waiting x ((checkpoint s p).live 0).log
unfolding checkpoint clean_logs clean_log fix_copy prune pruned
checkpoint_waits {x} s p h =
    let t = fix_copy (prune s p) p in
    let k : Waiting x (t.live 0).log = at_home_ind (λ a (m : Memory). a ≡ 0 → Waiting x m.log) s.job p _ s.live
    (λ a _ e. subst (λ a. Waiting x (s.live a).log) (sym e) h) (λ a _ e. subst (λ a. Waiting x (s.live a).log) (sym e) h) 0 refl in
    either (up t (t.job.home 0)) (λ e. rw e (fewer_wait (λ y i. (keep_mem (stays_in_log t p) (t.live 0).log i).0) k)) (λ e. rw e k)

-- p is no machine of the desk
module _ {x : Run} (s : State) (p : ℕ) (d : s.job.home 0 ≢ p) (h : Waiting x (s.live 0).log) where
  pub crash_waits : Waiting x ((crash s p).live 0).log
  unfolding crash
  crash_waits = subst (λ (m : Memory). Waiting x m.log) (sym (at_home_off s.job p _ s.live 0 d)) h

  pub restart_waits : Waiting x ((restart s p).live 0).log
  unfolding restart restore
  restart_waits = subst (λ (m : Memory). Waiting x m.log) (sym (at_home_off s.job p _ s.live 0 d)) h

pub withdraw_waits : {x : Run} (s : State) (c n : ℕ) → Waiting x (s.live 0).log → Waiting x ((take_back s c n).live 0).log
unfolding take_back
withdraw_waits s c n h = memory_waits s 0 _ (fewer_wait (λ y i. remove1_mem _ (s.live 0).log i)) h
