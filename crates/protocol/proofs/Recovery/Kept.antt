-- What every list keeps of holes and numbers, and that a send and a delivery keep it: the holes carried along are those read off the state,
-- and no SN or TN passes 60,000.
use Rattle.std.specs.Prelude.{◌≡◌, refl, Bool, true, false, cond, not, ◌&&◌, List, [], ◌∷◌, ◌++◌, ℕ, ◌+◌, ◌-◌, ◌≤◌, ◌<◌, eqb, leb}
use Rattle.std.proofs.Common.{sym, ◌∙◌, subst, subst₂, inl, inr, arith, leb-true}
use Rattle.std.proofs.Math.Option.{Option, some, none}
use Rattle.lists.specs.Tests.{either, lt?, true_not_false, and_l, and_r}
use Rattle.lists.specs.Map.{upd_ind, upd_ind₂}
use Rattle.lists.specs.Lists.{◌∈◌, All, all_nil, all_snoc, remove1_mem, change1, change1_mem}
use Rattle.protocol.specs.declared.Message.{Message}
use Rattle.protocol.specs.declared.Logged.{Logged}
use Rattle.protocol.specs.declared.Entry.{Entry}
use Rattle.protocol.specs.declared.Note.{Note}
use Rattle.protocol.specs.declared.Packet.{Packet}
use Rattle.protocol.specs.declared.Content.{Content}
use Rattle.protocol.specs.declared.Content.TheVariants.{Ask as ASK, GrantOld as GRANT-old, GrantReceived as GRANT-received, GrantNew as GRANT-new, Data as DATA, Note as NOTE, Ack as ACK}
use Rattle.protocol.specs.declared.Lookup.{Lookup}
use Rattle.protocol.specs.declared.Lookup.TheVariants.{Missing, Ticketed, Unticketed}
use Rattle.protocol.specs.Parts.{Memory, State, number_limit, blank}
use Rattle.protocol.specs.Setters.{with_table, with_log, with_memory, with_wire}
use Rattle.protocol.specs.Window.{Bits, width, look, is_open, bit_set, ones, rise, risen_mark, slid_window}
use Rattle.protocol.specs.Tickets.{fill, filled, mark_noted, unreceived, entry, new_tn}
use Rattle.protocol.specs.Sending.{is_local, about, put, next_message, log_message, send_remote, local_entry, send_local, send_message, send, send_all}
use Rattle.protocol.specs.Working.{work_entry}
use Rattle.protocol.specs.Packets as packets
use Rattle.protocol.specs.Job.{has_chare, new_memory, first_memory}
use Rattle.protocol.specs.Questions as questions
use Rattle.protocol.proofs.Recovery.Laws.Holes.{holes_of, holes_snoc, holes_change1}
use Rattle.protocol.proofs.Recovery.Laws.Look.{open_above}
use Rattle.protocol.proofs.Recovery.Laws.Marks.{ones_is}
use Rattle.protocol.proofs.Recovery.Laws.Lookups.{entry_some}
use Rattle.protocol.proofs.Recovery.Holes.{Holes, give, give_sent}

-- ---- what is bounded
-- the mark, and every SN whose bit is set
pub record Marks (k : ℕ) (w : Bits) : Type 0 where
  pub mark : k ≤ number_limit
  pub bits : (i : ℕ) → w i ≡ true → k + 1 + i ≤ number_limit

-- an SN n with its TN t
abbrev pub Fit : ℕ → ℕ → Type 0
Fit n t = (n ≤ number_limit) × (t ≤ number_limit)

abbrev pub Table : List Entry → Type 0
Table = All (λ e. Fit e.sn e.tn)

abbrev pub Log : List Logged → Type 0
Log = All (λ x. Fit x.message.sn x.tn)

abbrev pub Notes : List Note → Type 0
Notes = All (λ x. Fit x.sn x.tn)

abbrev pub Wire : List Packet → Type 0
Wire = All (λ y. Fit y.sn (packets.tn_of y.content))

pub record Small (m : Memory) : Type 0 where
  pub marks : (a : ℕ) → Marks (m.mark a) (m.window a)
  pub table : Table m.table
  pub log : Log m.log

-- ---- a mark rises to an SN that was worked
marks_set : {k : ℕ} {w : Bits} (n : ℕ) → Marks k w → n ≤ number_limit → is_open (look k w n) ≡ true → (i : ℕ) → bit_set k w n i ≡ true → k + 1 + i ≤ number_limit
unfolding bit_set
marks_set {k} {w} n m h e =
    let a : k < n = open_above k w n e in
    upd_ind (λ i b. b ≡ true → k + 1 + i ≤ number_limit) (n - k - 1) true w (λ _. omega arith) (λ i _. m.bits i)

pub marks_work : {k : ℕ} {w : Bits} (n : ℕ) → Marks k w → n ≤ number_limit → Marks (risen_mark k w n) (slid_window k w n)
unfolding risen_mark slid_window rise
marks_work {k} {w} n m h = either (is_open (look k w n))
    (λ e.
    let r = ones width (bit_set k w n) in
    let run = ones_is width (bit_set k w n) in
    rw e (record {
      mark = elim (lt? 0 r) [ inl a ↦ let b = marks_set n m h e (r - 1) (run.set (r - 1) (omega arith)) in omega arith | inr a ↦ let b = m.mark in omega arith ];
      bits = λ i q. let a = marks_set n m h e (r + i) q in omega arith;
    }))
    (λ e. rw e (record { mark = let a = m.mark in omega arith; bits = λ i q. let a = m.bits i q in omega arith }))

-- ---- memories
all_change1 : {A : Type 0} {P : A → Type 0} (p : A → Bool) (f : A → A) (l : List A) → ((x : A) → P x → P (f x)) → All P l → All P (change1 p f l)
all_change1 {P = P} p f l g h y i = elim (change1_mem p f l i) [ inl j ↦ h y j | inr (x, j, _, q) ↦ subst P (sym q) (g x (h x j)) ]

pub small_table : {m : Memory} → Small m → {l : List Entry} → Table l → Small (with_table m l)
small_table k h = record { marks = k.marks; table = h; log = k.log }

pub small_log : {m : Memory} → Small m → {l : List Logged} → Log l → Small (with_log m l)
small_log k h = record { marks = k.marks; table = k.table; log = h }

pub small_work : {m : Memory} → Small m → (e : Entry) → e ∈ m.table → Small (work_entry m e)
unfolding work_entry
small_work {m} k e i = record {
  marks = upd_ind₂ (λ a n w. Marks n w) e.sender _ _ m.mark m.window (marks_work e.sn (k.marks e.sender) (k.table e i).0) (λ a _. k.marks a);
  table = k.table;
  log = k.log;
}

pub small_blank : Small blank
unfolding blank
small_blank = record { marks = λ a. record { mark = omega arith; bits = λ i q. true_not_false q refl }; table = all_nil _; log = all_nil _ }

pub small_first : (b : List ℕ) (c : ℕ) → Small (first_memory b c)
unfolding first_memory new_memory blank
small_first b c = either (has_chare b c) (λ e. rw e (record { marks = small_blank.marks; table = all_nil _; log = all_nil _ })) (λ e. rw e small_blank)

-- ---- what is kept
pub record Kept (s : State) (h : Holes) : Type 0 where
  pub holes : (c t : ℕ) → h c t ≡ holes_of (s.live c) t
  pub live : (c : ℕ) → Small (s.live c)
  pub copy : (c : ℕ) → Small (s.copy c)
  pub notes : (p : ℕ) → Notes (s.notes p)
  pub wire : Wire s.wire

-- the memory of c becomes m, with the same holes
pub kept_memory : {s : State} {h : Holes} → Kept s h → (c : ℕ) {m : Memory} → Small m → ((t : ℕ) → holes_of m t ≡ holes_of (s.live c) t) → Kept (with_memory s c m) h
kept_memory {s} {h} k c {m} small same = record {
  holes = upd_ind (λ c m. (t : ℕ) → h c t ≡ holes_of m t) c m s.live (λ t. k.holes c t ∙ sym (same t)) (λ c _. k.holes c);
  live = upd_ind (λ _. Small) c m s.live small (λ c _. k.live c);
  copy = k.copy;
  notes = k.notes;
  wire = k.wire;
}

-- a new ticket of c is entered
kept_ticket : {s : State} {h : Holes} → Kept s h → (c : ℕ) (e : Entry) → e.tn ≡ new_tn (s.live c) → Fit e.sn e.tn → Kept (packets.new_table s c ((s.live c).table ++ (e ∷ []))) (give s c h)
unfolding packets.new_table give
kept_ticket {s} {h} k c e q fit =
    let x = s.live c in
    record {
      holes = upd_ind₂ (λ c (m : Memory) (g : ℕ → Bool). (t : ℕ) → g t ≡ holes_of m t) c _ _ s.live h
          (λ t. rw (k.holes c t, ← q) (sym (holes_snoc x.height x.highest_at_restart x.table e t)))
          (λ c _. k.holes c);
      live = upd_ind (λ _. Small) c _ s.live (small_table (k.live c) (all_snoc x.table (k.live c).table fit)) (λ c _. k.live c);
      copy = k.copy;
      notes = k.notes;
      wire = k.wire;
    }

-- entries of c change, and keep SN and TN
kept_entries : {s : State} {h : Holes} → Kept s h → (c : ℕ) (p : Entry → Bool) (f : Entry → Entry) → ((e : Entry) → (f e).sn ≡ e.sn) → ((e : Entry) → (f e).tn ≡ e.tn)
    → Kept (packets.new_table s c (change1 p f (s.live c).table)) h
unfolding packets.new_table
kept_entries {s} k c p f sn tn =
    let l = (s.live c).table in
    kept_memory k c (small_table (k.live c) (all_change1 p f l (λ e q. subst₂ Fit (sym (sn e)) (sym (tn e)) q) (k.live c).table)) (holes_change1 _ _ p f tn l)

kept_log : {s : State} {h : Holes} → Kept s h → (c : ℕ) {l : List Logged} → Log l → Kept (packets.new_log s c l) h
unfolding packets.new_log
kept_log k c fit = kept_memory k c (small_log (k.live c) fit) (λ t. refl)

pub kept_wire : {s : State} {h : Holes} → Kept s h → {l : List Packet} → Wire l → Kept (with_wire s l) h
kept_wire k fit = record { holes = k.holes; live = k.live; copy = k.copy; notes = k.notes; wire = fit }

kept_put : {s : State} {h : Holes} → Kept s h → (y : Packet) → Fit y.sn (packets.tn_of y.content) → Kept (put s y) h
unfolding put
kept_put {s} k y fit = kept_wire k (all_snoc s.wire k.wire fit)

-- ---- sending
kept_message : {s : State} {h : Holes} → Kept s h → (m : Message) (t : ℕ) → Fit m.sn t → Kept (log_message s m t) h
unfolding log_message
kept_message {s} k m t fit =
    let x = k.live m.sender in
    kept_memory k m.sender (record { marks = x.marks; table = x.table; log = all_snoc (s.live m.sender).log x.log fit }) (λ t. refl)

kept_local : {s : State} {h : Holes} → Kept s h → (m : Message) (o : Option Entry) → entry (s.live m.receiver).table m.sender m.sn ≡ o → m.sn ≤ number_limit
    → (questions.no_entry o ≡ true → new_tn (s.live m.receiver) ≤ number_limit) → Kept (send_local s m o) (cond (questions.no_entry o) (give s m.receiver h) h)
unfolding send_local questions.no_entry filled fill local_entry about packets.tn_of packets.new_table
kept_local {s} k m (some e) found n t =
    let l = (s.live m.receiver).table in
    kept_message (kept_entries k m.receiver _ _ (λ e. refl) (λ e. refl)) m e.tn (n, ((k.live m.receiver).table e (entry_some l m.sender m.sn found).0).1)
kept_local k m none found n t = kept_put (kept_message (kept_ticket k m.receiver (local_entry m _) refl (n, t refl)) m _ (n, t refl)) _ (n, t refl)

pub kept_send : {s : State} {h : Holes} → Kept s h → (a b value hops : ℕ) → questions.numbers_fit s a b ≡ true → Kept (send s a b value hops) (cond (questions.takes_ticket s a b) (give s b h) h)
unfolding send send_message send_remote next_message about packets.tn_of questions.numbers_fit questions.takes_ticket questions.sn_to_send
kept_send {s} k a b value hops y =
    let m = next_message s a b value hops in
    let n : (s.live a).sn b + 1 ≤ number_limit = leb-true _ _ (and_l _ _ y) in
    let t = and_r (leb ((s.live a).sn b + 1) number_limit) _ y in
    either (is_local s.job a b)
    (λ e. rw e (kept_local k m (entry (s.live b).table a ((s.live a).sn b + 1)) refl n (λ q. leb-true _ _ (rw (e, q) at t))))
    (λ e. rw e (kept_put (kept_message k m 0 (n, omega arith)) _ (n, omega arith)))

pub kept_sends : {s : State} {h : Holes} → Kept s h → (a : ℕ) (l : List ℕ) (value hops : ℕ) → questions.put_to_all questions.numbers_fit s a l value hops ≡ true
    → Kept (send_all s a l value hops) (give_sent s a l value hops h)
unfolding send_all give_sent questions.put_to_all
kept_sends k a [] value hops y = k
kept_sends {s} k a (b ∷ l) value hops y = kept_sends {s = send s a b value hops} (kept_send k a b value hops (and_l _ _ y)) a l value hops (and_r (questions.numbers_fit s a b) _ y)

-- ---- delivering
kept_reply : {s : State} {h : Holes} → Kept s h → (y : Packet) → y.sn ≤ number_limit → (c : Content) → packets.tn_of c ≤ number_limit → Kept (packets.reply s y c) h
unfolding packets.reply
kept_reply k y n c t = kept_put k _ (n, t)

kept_ask : {s : State} {h : Holes} → Kept s h → (y : Packet) → y.sn ≤ number_limit → (o : Option Entry) → packets.entry_of s y ≡ o → (w : Bool)
    → ((questions.no_entry o && not w) ≡ true → new_tn (s.live y.receiver) ≤ number_limit) → Kept (packets.ask s y o w) (cond (questions.no_entry o && not w) (give s y.receiver h) h)
unfolding packets.ask packets.entry_of packets.tn_of questions.no_entry unreceived
kept_ask {s} k y n (some e) found w t =
    let q = ((k.live y.receiver).table e (entry_some (s.live y.receiver).table y.sender y.sn found).0).1 in
    kept_reply k y n _ (either e.received (λ r. rw r q) (λ r. rw r q))
kept_ask k y n none found true t = kept_reply k y n _ (omega arith)
kept_ask k y n none found false t = kept_reply (kept_ticket k y.receiver (unreceived y.sender y.sn _) refl (n, t refl)) y n _ (t refl)

kept_grant : {s : State} {h : Holes} → Kept s h → (y : Packet) (t : ℕ) → t ≤ number_limit → (o : Lookup) → Kept (packets.grant_received s y t o) h
unfolding packets.grant_received packets.ticketed packets.set_tn
kept_grant k y t f Missing = k
kept_grant k y t f Ticketed = k
kept_grant {s} k y t f (Unticketed m) = kept_log k y.sender (all_change1 _ _ (s.live y.sender).log (λ x q. (q.0, f)) (k.live y.sender).log)

kept_new : {s : State} {h : Holes} → Kept s h → (y : Packet) → y.sn ≤ number_limit → (t : ℕ) → t ≤ number_limit → (o : Lookup) → Kept (packets.grant_new s y t o) h
unfolding packets.grant_new packets.tn_of
kept_new k y n t f Missing = k
kept_new k y n t f Ticketed = k
kept_new k y n t f (Unticketed m) = kept_reply (kept_grant k y t f (Unticketed m)) y n _ (omega arith)

kept_old : {s : State} {h : Holes} → Kept s h → (y : Packet) (o : Lookup) → Kept (packets.grant_old s y o) h
unfolding packets.grant_old
kept_old k y Missing = k
kept_old k y Ticketed = k
kept_old {s} k y (Unticketed m) = kept_log k y.sender (λ x i. (k.live y.sender).log x (remove1_mem _ (s.live y.sender).log i))

kept_data : {s : State} {h : Holes} → Kept s h → (y : Packet) (v n : ℕ) (o : Option Entry) → Kept (packets.data_in s y v n o) h
unfolding packets.data_in filled fill
kept_data k y v n none = k
kept_data k y v n (some e) = either e.received (λ q. rw q k) (λ q. rw q (kept_entries k y.receiver _ _ (λ e. refl) (λ e. refl)))

kept_note : {s : State} {h : Holes} → Kept s h → (y : Packet) (t : ℕ) → Fit y.sn t → Kept (packets.store_note s y t) h
unfolding packets.store_note packets.note_of packets.tn_of
kept_note {s} k y t fit =
    let p = s.job.home y.receiver in
    kept_reply (record {
      holes = k.holes;
      live = k.live;
      copy = k.copy;
      notes = upd_ind (λ _. Notes) p _ s.notes
          (either (packets.has_note (s.notes p) (packets.note_of y t)) (λ q. rw q (k.notes p)) (λ q. rw q (all_snoc (s.notes p) (k.notes p) fit)))
          (λ p _. k.notes p);
      wire = k.wire;
    }) y fit.0 ACK (omega arith)

-- an ASK that needs a new ticket
abbrev pub asks_new : State → Packet → Content → Bool
asks_new s y c = eqb (packets.kind c) 1 && questions.no_entry (packets.entry_of s y) && not (packets.is_worked (s.live y.receiver) y.sender y.sn)

pub kept_arrive : {s : State} {h : Holes} → Kept s h → (y : Packet) → y.sn ≤ number_limit → (c : Content) → packets.tn_of c ≤ number_limit → (asks_new s y c ≡ true → new_tn (s.live y.receiver) ≤ number_limit)
    → Kept (packets.arrive s y c) (cond (asks_new s y c) (give s y.receiver h) h)
unfolding packets.arrive packets.kind packets.tn_of packets.ack mark_noted
kept_arrive k y n ASK t q = kept_ask k y n _ refl _ q
kept_arrive k y n GRANT-old t q = kept_old k y _
kept_arrive k y n (GRANT-received u) t q = kept_grant k y u t _
kept_arrive k y n (GRANT-new u) t q = kept_new k y n u t _
kept_arrive k y n (DATA v g) t q = kept_data k y v g _
kept_arrive k y n (NOTE u) t q = kept_note k y u (n, t)
kept_arrive k y n ACK t q = kept_entries k y.receiver _ _ (λ e. refl) (λ e. refl)
