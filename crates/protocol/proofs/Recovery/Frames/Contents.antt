-- A delivered packet keeps the invariant, content by content.
use Rattle.std.specs.Prelude.{◌≡◌, Bool, cond, ◌≢◌, List, [], ◌∷◌, ◌++◌, eqb}
use Rattle.std.proofs.Math.Path.{refl, sym, ap, subst}
use Rattle.std.proofs.Common.{◌∙◌, arith}
use Rattle.std.proofs.Math.Bool.{true, false}
use Rattle.std.proofs.Math.Logic.{inl, inr}
use mathlib.Core.List.Memᴰ
use mathlib.Core.List.Memᴰ.{head as here}
use Rattle.std.proofs.Math.Option.{Option, some, none}
use Prim.Native.Nat.{ℕ, ◌+◌, ◌≤◌, ◌<◌}
use borrow.Author.Tests.{eqb-true}
use Rattle.lists.specs.Tests.{either, split, true_not_false, lt?, and_l, and4}
use Rattle.lists.specs.Map.{upd, upd_same, upd_self}
use Rattle.lists.specs.Keys.{NoDup}
use Rattle.lists.specs.Lists.{◌∈◌, All, anyb_true, find, remove1, change1}
use Rattle.protocol.specs.declared.Message.{Message}
use Rattle.protocol.specs.declared.Logged.{Logged}
use Rattle.protocol.specs.declared.Entry.{Entry}
use Rattle.protocol.specs.declared.Note.{Note}
use Rattle.protocol.specs.declared.Packet.{Packet}
use Rattle.protocol.specs.declared.Content.TheVariants.{Ask as ASK, GrantOld as GRANT-old, GrantReceived as GRANT-received, GrantNew as GRANT-new, Data as DATA, Note as NOTE, Ack as ACK}
use Rattle.protocol.specs.declared.Lookup.{Lookup}
use Rattle.protocol.specs.declared.Lookup.TheVariants.{Missing, Ticketed as HasTicket, Unticketed}
use Rattle.protocol.specs.declared.Status.TheVariants.{Up, Down}
use Rattle.protocol.specs.Parts.{State}
use Rattle.protocol.specs.Setters.{with_table, with_log, with_notes}
use Rattle.protocol.specs.Window.{admitted, width}
use Rattle.protocol.specs.Tickets.{entry, for_message, new_tn, unreceived, filled, mark_noted}
use Rattle.protocol.specs.Sending.{is_local}
use Rattle.protocol.specs.Packets.{new_table, new_log, ask, for_receiver, ticketed, set_tn, grant_old, grant_received, grant_new, data_in, store_note, note_of, same_note, has_note, ack, seen, is_worked, entry_of, lookup_of}
use Rattle.protocol.specs.Restart.{is_ticketed_above}
use Rattle.protocol.specs.CrashFree.{Run}
use Rattle.protocol.proofs.Recovery.Run.Facts.{Sent, RunOk}
use Rattle.protocol.proofs.Recovery.Laws.Look.{admitted_near}
use Rattle.protocol.proofs.Recovery.Laws.Marks.{worked_in, in_worked}
use Rattle.protocol.proofs.Recovery.Laws.NewTicket.{new_tn_above, new_tn_free}
use Rattle.protocol.proofs.Recovery.Laws.Lookups.{entry_some, entry_none, Waits, lookup_unticketed, mem_ticketed, entry_key, logged_key}
use Rattle.protocol.proofs.Recovery.Invariant.World.{World, Pending, put_mem, put_notes, Place, Tick, Stable, SentKey, LoggedAs, NotedAs}
use Rattle.protocol.proofs.Recovery.Invariant.Clauses.{Chare, Sender, InvP, Fits}
use Rattle.protocol.proofs.Recovery.Laws.Places.{take_place, place_same, place_bound}
use Rattle.protocol.proofs.Recovery.Invariant.Ticks.{tick_entry, stable_no_entry}
use Rattle.protocol.proofs.Recovery.Invariant.Good.{Good, keep_change1, keep_remove1}
use Rattle.protocol.proofs.Recovery.Steps.Retable.{put_table}
use Rattle.protocol.proofs.Recovery.Steps.Table.{NewEntry, table_add, table_fill, table_note}
use Rattle.protocol.proofs.Recovery.Steps.Log.{log_ticket, log_remove}
use Rattle.protocol.proofs.Recovery.Steps.Notes.{note_add}
use Rattle.protocol.proofs.Recovery.Invariant.Senders.{key_sender, key_receiver}
use Rattle.protocol.proofs.Recovery.Steps.Settle.{logged_tick}
use Rattle.protocol.proofs.Recovery.Frames.States.{world_now, good_reply, live, good_table, good_log, good_notes}

named : {a r n : ℕ} (m : Message) → m.sender ≡ a → m.receiver ≡ r → m.sn ≡ n → m ≡ record { sender = a; receiver = r; sn = n; value = m.value; hops = m.hops }
named m e f g i = record { sender = e i; receiver = f i; sn = g i; value = m.value; hops = m.hops }

module _ (t : ℕ) (z : Logged) where
  set_receiver : (set_tn t z).message.receiver ≡ z.message.receiver
  unfolding set_tn
  set_receiver = refl

  set_sn : (set_tn t z).message.sn ≡ z.message.sn
  unfolding set_tn
  set_sn = refl

  set_is : (set_tn t z).tn ≡ t
  unfolding set_tn
  set_is = refl

-- a ticket is a number
pub tick_some : {p : Pending} {w : World} → InvP p w → {r a n t : ℕ} → Chare w.job r → Tick w.run w.mem r a n t → t ≢ 0
tick_some inv c (inl q) e = let b = (place_bound q).0 in omega arith
tick_some inv {r} c (inr q) e = let b = (inv.tables r c).positive q.entry q.member in let d = q.of_tn in omega arith

module _ {p : Pending} {s : State} {x : Run} {stable : ℕ → ℕ} (ok : RunOk s.job x) (g : Good p s x stable) (y : Packet)
    (k : SentKey x y.sender y.receiver y.sn) where
  chare : Chare s.job y.receiver
  chare = key_receiver g.inv.domain k

  key_positive : 1 ≤ y.sn
  key_positive = let b = (ok.bounds k.message k.sent).0 in let e = k.of_sn in omega arith

  -- ---- ASK
  module _ (u : s.status (s.job.home y.receiver) ≢ Down) where
    mem : g.mem y.receiver ≡ s.live y.receiver
    mem = live g y.receiver u

    -- worked, and no entry: at or below the stable height
    old_stable : entry_of s y ≡ none → is_worked (s.live y.receiver) y.sender y.sn ≡ true → Stable x stable y.receiver y.sender y.sn
    unfolding entry_of
    old_stable empty w =
        let r = y.receiver in
        let table = g.inv.tables r chare in
        let i = worked_in {m = g.mem r} (g.inv.images.image r chare).marks key_positive (subst (λ m. is_worked m y.sender y.sn ≡ true) (sym mem) w) in
        let (t, h, q) = take_place (g.mem r).height (x.worked r) i in
        elim (lt? (stable r) t) [
          | inl above ↦
              let b = (g.inv.images.image r chare).reached in
              let (e, j, z) = table.complete t above (omega arith) in
              let c = place_same q (subst (λ t. Place (x.worked r) t e.sender e.sn) z (table.past e j (omega arith))) in
              absurd (entry_none (s.live r).table y.sender y.sn empty e (subst (λ m. e ∈ m.table) mem j) (λ i. (sym c.0 i, sym c.1 i)))
          | inr low ↦ record { tn = t; low = low; worked = q }
        ]

    new_entry : is_local s.job y.sender y.receiver ≡ false → entry_of s y ≡ none → is_worked (s.live y.receiver) y.sender y.sn ≡ false
        → admitted (seen (s.live y.receiver) y.sender y.sn) ≡ true
        → NewEntry (world_now g) y.receiver (unreceived y.sender y.sn (new_tn (s.live y.receiver)))
    unfolding entry_of unreceived
    new_entry remote empty w a =
        let r = y.receiver in
        record {
          unreceived = refl;
          sent = k;
          above = subst (λ m. m.height < new_tn (s.live r)) (sym mem) (new_tn_above (s.live r));
          free = subst (λ m. All (λ f. f.tn ≢ new_tn (s.live r)) m.table) (sym mem) (new_tn_free (s.live r));
          unknown = subst (λ m. All (λ f. entry_key f ≢ (y.sender, y.sn)) m.table) (sym mem) (entry_none (s.live r).table y.sender y.sn empty);
          unworked = λ i. true_not_false (subst (λ m. is_worked m y.sender y.sn ≡ true) mem (in_worked {m = g.mem r} (g.inv.images.image r chare).marks i)) w;
          near = subst (λ m. y.sn ≤ m.mark y.sender + width) (sym mem) (admitted_near _ _ _ a);
          local = λ e. true_not_false refl e;
          unnoted = λ e. true_not_false e remote;
          next = λ e. true_not_false e remote;
        }

    -- a new ticket
    module _ (f : Fits (world_now g) y.sender y.receiver y.sn ASK) (empty : entry_of s y ≡ none) (w : is_worked (s.live y.receiver) y.sender y.sn ≡ false)
        (a : admitted (seen (s.live y.receiver) y.sender y.sn) ≡ true) where
      abbrev e : Entry
      e = unreceived y.sender y.sn (new_tn (s.live y.receiver))

      abbrev l : List Entry
      l = (s.live y.receiver).table ++ (e ∷ [])

      added : Good p (new_table s y.receiver l) x stable
      added = good_table g y.receiver u l
          (subst (λ m. InvP p (put_table (world_now g) y.receiver (m.table ++ (e ∷ [])))) mem (table_add g.inv y.receiver chare e (new_entry f empty w a)))

      ask_new : Good p (ask s y none false) x stable
      unfolding ask new_table unreceived added good_table
      ask_new = good_reply added y (GRANT-new (new_tn (s.live y.receiver))) k (
        f,
        inr (record {
          entry = e;
          member = rw (upd_same y.receiver (with_table (g.mem y.receiver) l) g.mem) (Memᴰ.append_right (s.live y.receiver).table (here refl));
          of_sender = refl;
          of_sn = refl;
          of_tn = refl;
        }),
        u,
      )

    pub keep_ask : Fits (world_now g) y.sender y.receiver y.sn ASK → (o : Option Entry) → entry_of s y ≡ o → (w : Bool) → is_worked (s.live y.receiver) y.sender y.sn ≡ w
        → (o ≡ none → w ≡ false → admitted (seen (s.live y.receiver) y.sender y.sn) ≡ true) → Good p (ask s y o w) x stable
    unfolding ask entry_of
    keep_ask f (some e) found w q a =
        let (i, b, c) = entry_some (s.live y.receiver).table y.sender y.sn found in
        let t : Tick x g.mem y.receiver y.sender y.sn e.tn =
        inr (record { entry = e; member = subst (λ m. e ∈ m.table) (sym mem) i; of_sender = b; of_sn = c; of_tn = refl }) in
        either e.received
        (λ z. rw z (good_reply g y (GRANT-received e.tn) k (f, t, u)))
        (λ z. rw z (good_reply g y (GRANT-new e.tn) k (f, t, u)))
    keep_ask f none found true q a = good_reply g y GRANT-old k (f, old_stable found q, u)
    keep_ask f none found false q a = ask_new f found q (a refl refl)

  -- ---- DATA: the sender's log has the entry's TN
  module _ (u : s.status (s.job.home y.receiver) ≢ Down) (v h : ℕ) (f : Fits (world_now g) y.sender y.receiver y.sn (DATA v h)) where
    logged_entry : (e : Entry) → e ∈ (g.mem y.receiver).table → stable y.receiver < e.tn → e.sender ≡ y.sender → e.sn ≡ y.sn
        → s.status (s.job.home y.sender) ≡ Up → LoggedAs (g.mem y.sender).log y.receiver y.sn e.tn
    logged_entry e i o a b up = elim (f.2 up) [
      | inl t ↦
          let q = tick_entry (ok.distinct y.receiver) (g.inv.tables y.receiver chare) (logged_tick (g.inv.logs y.sender (key_sender g.inv.domain k)) t.found t.some_tn) e i a b in
          subst (LoggedAs (g.mem y.sender).log y.receiver y.sn) (sym q) t.found
      | inr t ↦ absurd (stable_no_entry {stable = stable} (ok.distinct y.receiver) (g.inv.tables y.receiver chare) t e i o a b)
    ]

    data_some : (e : Entry) → entry_of s y ≡ some e → e.received ≡ false
        → Good p (new_table s y.receiver (filled y.sender y.sn v h (s.live y.receiver).table)) x stable
    unfolding entry_of
    data_some e found z =
        let (i, a, b) = entry_some (s.live y.receiver).table y.sender y.sn found in
        good_table g y.receiver u _
        (subst (λ m. InvP p (put_table (world_now g) y.receiver (filled y.sender y.sn v h m.table))) (mem u)
        (table_fill g.inv y.receiver chare y.sender y.sn v h e (ap (λ m. entry m.table y.sender y.sn) (mem u) ∙ found) f.1
        (λ l. true_not_false l f.0) (λ o _ up. logged_entry e (subst (λ m. e ∈ m.table) (sym (mem u)) i) o a b up)))

    pub keep_data : (o : Option Entry) → entry_of s y ≡ o → Good p (data_in s y v h o) x stable
    unfolding data_in
    keep_data none found = g
    keep_data (some e) found = split (λ b. Good p (cond b s (new_table s y.receiver (filled y.sender y.sn v h (s.live y.receiver).table))) x stable) e.received
        (λ z. g) (λ z. data_some e found z)

  -- ---- GRANT
  module _ (u : s.status (s.job.home y.sender) ≢ Down) (v : s.status (s.job.home y.receiver) ≢ Down) where
    abbrev log : List Logged
    log = (s.live y.sender).log

    from : g.mem y.sender ≡ s.live y.sender
    from = live g y.sender u

    sender : Sender s.job y.sender
    sender = key_sender g.inv.domain k

    -- a message to the receiver, whose machine is up, is none that a restart of another machine would read
    elsewhere : (c : ℕ) → s.status (s.job.home c) ≡ Down → (z : Logged) → for_receiver y.receiver y.sn z ≡ true → is_ticketed_above c (s.copy c).height z ≡ false
    unfolding for_receiver is_ticketed_above
    elsewhere c d z e = either (eqb z.message.receiver c)
        (λ q. absurd (v (subst (λ r. s.status (s.job.home r) ≡ Down) (sym (eqb-true _ _ q) ∙ eqb-true _ _ (and_l _ _ e)) d)))
        (λ q. rw q)

    ticketed_elsewhere : (t c : ℕ) → s.status (s.job.home c) ≡ Down → (z : Logged) → for_receiver y.receiver y.sn z ≡ true → is_ticketed_above c (s.copy c).height (set_tn t z) ≡ false
    unfolding for_receiver is_ticketed_above set_tn
    ticketed_elsewhere t c d z e = either (eqb z.message.receiver c)
        (λ q. absurd (v (subst (λ r. s.status (s.job.home r) ≡ Down) (sym (eqb-true _ _ q) ∙ eqb-true _ _ (and_l _ _ e)) d)))
        (λ q. rw q)

    pub keep_old : Fits (world_now g) y.sender y.receiver y.sn GRANT-old → (o : Lookup) → lookup_of s y ≡ o → Good p (grant_old s y o) x stable
    unfolding grant_old
    keep_old f Missing e = g
    keep_old f HasTicket e = g
    keep_old f (Unticketed m) e = good_log g y.sender u sender (remove1 (for_receiver y.receiver y.sn) log)
        (λ c _ d. keep_remove1 _ _ log (elsewhere c d))
        (subst (λ m. InvP p (put_mem (world_now g) (upd y.sender (with_log (g.mem y.sender) (remove1 (for_receiver y.receiver y.sn) m.log)) g.mem))) from
        (log_remove ok g.inv y.sender y.receiver y.sn sender f.1))

    -- received or new: the TN is set
    module _ (t : ℕ) (tick : Tick x g.mem y.receiver y.sender y.sn t) (m : Message) (e : lookup_of s y ≡ Unticketed m) where
      waits : Waits log y.receiver y.sn m
      unfolding lookup_of
      waits = lookup_unticketed log y.receiver y.sn e

      unfoldable set : Good p (grant_received s y t (Unticketed m)) x stable
      unfolding grant_received ticketed
      set = good_log g y.sender u sender (ticketed y.receiver y.sn t log)
          (λ c _ d. keep_change1 _ _ _ log (λ z q. (elsewhere c d z q, ticketed_elsewhere t c d z q)))
          (subst (λ m. InvP p (put_mem (world_now g) (upd y.sender (with_log (g.mem y.sender) (ticketed y.receiver y.sn t m.log)) g.mem))) from
          (log_ticket ok g.inv y.sender y.receiver y.sn t waits.logged sender
          (ap (λ m. find (for_receiver y.receiver y.sn) m.log) from ∙ waits.found) waits.no_tn (tick_some g.inv chare tick) tick))

      -- then DATA goes out
      set_sends : is_local s.job y.sender y.receiver ≡ false → Good p (grant_new s y t (Unticketed m)) x stable
      unfolding grant_new grant_received set good_log new_log ticketed lookup_of
      set_sends f =
          let z = waits.logged in
          let i : z ∈ (g.mem y.sender).log = subst (λ m. z ∈ m.log) (sym from) waits.member in
          let l = ticketed y.receiver y.sn t log in
          let q = waits.of_key in
          let sent : Sent x (record { sender = y.sender; receiver = y.receiver; sn = y.sn; value = m.value; hops = m.hops }) =
          subst (Sent x) (named m (ap (λ (m : Message). m.sender) (sym waits.equal) ∙ (g.inv.logs y.sender sender).owner z i)
          (ap (λ (m : Message). m.receiver) (sym waits.equal) ∙ ap (λ (k : ℕ × ℕ). k.0) q)
          (ap (λ (m : Message). m.sn) (sym waits.equal) ∙ ap (λ (k : ℕ × ℕ). k.1) q))
          (subst (Sent x) waits.equal ((g.inv.logs y.sender sender).sent z i)) in
          good_reply set y (DATA m.value m.hops) k (
            f,
            sent,
            λ _. inl (record {
              tn = t;
              some_tn = tick_some g.inv chare tick;
              found = rw (upd_same y.sender (with_log (g.mem y.sender) l) g.mem) (record {
                logged = set_tn t z;
                member = mem_ticketed y.receiver y.sn t (subst (λ m. NoDup logged_key m.log) from (g.inv.logs y.sender sender).keys) waits.member q;
                of_receiver = set_receiver t z ∙ ap (λ (k : ℕ × ℕ). k.0) q;
                of_sn = set_sn t z ∙ ap (λ (k : ℕ × ℕ). k.1) q;
                of_tn = set_is t z;
              });
            }),
          )

    pub keep_received : (t : ℕ) → Tick x g.mem y.receiver y.sender y.sn t → (o : Lookup) → lookup_of s y ≡ o → Good p (grant_received s y t o) x stable
    unfolding grant_received
    keep_received t q Missing e = g
    keep_received t q HasTicket e = g
    keep_received t q (Unticketed m) e = set t q m e

    pub keep_new : (t : ℕ) → Tick x g.mem y.receiver y.sender y.sn t → is_local s.job y.sender y.receiver ≡ false
        → (o : Lookup) → lookup_of s y ≡ o → Good p (grant_new s y t o) x stable
    unfolding grant_new
    keep_new t q f Missing e = g
    keep_new t q f HasTicket e = g
    keep_new t q f (Unticketed m) e = set_sends t q m e f

  -- ---- NOTE
  module _ (t : ℕ) (f : Fits (world_now g) y.sender y.receiver y.sn (NOTE t)) where
    abbrev home : ℕ
    home = s.job.home y.receiver

    -- the notes, and their list with this one
    abbrev notes : List Note
    notes = cond (has_note (s.notes home) (note_of y t)) (s.notes home) (s.notes home ++ (note_of y t ∷ []))

    stored_is : NotedAs notes y.sender y.receiver y.sn t
    unfolding has_note same_note note_of
    stored_is = split (λ b. has_note (s.notes home) (note_of y t) ≡ b → NotedAs (cond b (s.notes home) (s.notes home ++ (note_of y t ∷ []))) y.sender y.receiver y.sn t)
        (has_note (s.notes home) (note_of y t))
        (λ _ e.
        let (n, i, q) = anyb_true _ (s.notes home) e in
        let (a, b, c, d) = and4 _ _ _ _ q in
        record { note = n; member = i; of_sender = sym (eqb-true _ _ a); of_receiver = sym (eqb-true _ _ b); of_sn = sym (eqb-true _ _ c); of_tn = sym (eqb-true _ _ d) })
        (λ _ _. record { note = note_of y t; member = Memᴰ.append_right (s.notes home) (here refl); of_sender = refl; of_receiver = refl; of_sn = refl; of_tn = refl }) refl

    unfoldable stored : Good p (with_notes s (upd home notes s.notes)) x stable
    unfolding good_notes note_of
    stored = good_notes g home f.3 notes
        (split (λ b. InvP p (put_notes (world_now g) (upd home (cond b (s.notes home) (s.notes home ++ (note_of y t ∷ []))) s.notes)))
        (has_note (s.notes home) (note_of y t))
        (λ _. rw (upd_self home s.notes) g.inv)
        (λ _. note_add g.inv home (note_of y t) (f.0, chare, refl, f.1)))

    pub keep_note : Good p (store_note s y t) x stable
    unfolding store_note stored good_notes
    keep_note = good_reply stored y ACK k (
      f.0,
      f.2,
      λ _ e i _ a b. inl (rw (upd_same home notes s.notes)
          (subst (NotedAs notes y.sender y.receiver y.sn) (sym (tick_entry (ok.distinct y.receiver) (g.inv.tables y.receiver chare) f.1 e i a b)) stored_is)),
    )

  -- ---- ACK
  pub keep_ack : s.status (s.job.home y.receiver) ≢ Down → Fits (world_now g) y.sender y.receiver y.sn ACK → Good p (ack s y) x stable
  unfolding ack
  keep_ack u f = good_table g y.receiver u _
      (subst (λ m. InvP p (put_table (world_now g) y.receiver (change1 (for_message y.sender y.sn) mark_noted m.table))) (mem u)
      (table_note g.inv y.receiver chare y.sender y.sn (λ _. f.2)))
