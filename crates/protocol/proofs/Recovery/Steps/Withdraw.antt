-- A withdrawal: the run has the desk's last message to a chare no more. Nobody names it: it is not worked, the table has no entry for it,
-- so no GRANT and no DATA of it is under way and no copy has it; its ASKs leave the wire, and it leaves the log.
use Rattle.std.specs.Prelude.{◌≡◌, true, ◌⊎◌, ◌≢◌, List, ℕ, ◌+◌, ◌≤◌}
use Rattle.std.proofs.Math.Path.{refl, sym, ap, subst, subst₃}
use Rattle.std.proofs.Common.{◌∙◌, arith, eq-eqb}
use Rattle.std.proofs.Math.Logic.{inl, inr}
use Rattle.lists.specs.Tests.{true_not_false, and_i, not_true}
use Rattle.lists.specs.Map.{upd, upd_same, upd_other, upd_upd, upd_self, upd_ind}
use Rattle.lists.specs.Lists.{◌∈◌, all_nil, keep, keep_mem, remove1, remove1_mem}
use Rattle.protocol.specs.declared.Message.{Message}
use Rattle.protocol.specs.declared.Logged.{Logged}
use Rattle.protocol.specs.declared.Entry.{Entry}
use Rattle.protocol.specs.declared.Packet.{Packet}
use Rattle.protocol.specs.declared.Content.{Content}
use Rattle.protocol.specs.declared.Content.TheVariants.{Ask as ASK, GrantOld as GRANT-old, GrantReceived as GRANT-received, GrantNew as GRANT-new, Data as DATA, Note as NOTE, Ack as ACK}
use Rattle.protocol.specs.Parts.{Memory}
use Rattle.protocol.specs.Setters.{with_log, with_sn}
use Rattle.protocol.specs.Sending.{is_local}
use Rattle.protocol.specs.Packets.{kind, is_named, for_receiver}
use Rattle.protocol.specs.Withdraw.{is_other}
use Rattle.protocol.specs.CrashFree.{run_send}
use Rattle.protocol.specs.History.{message_of}
use Rattle.protocol.proofs.Recovery.Run.Facts.{Sent, RunOk, worked_sent, sent_below}
use Rattle.protocol.proofs.Recovery.Run.Send.{send_sn_same, sent_before, sent_after}
use Rattle.protocol.proofs.Recovery.Laws.Marks.{In}
use Rattle.protocol.proofs.Recovery.Laws.Places.{place_in}
use Rattle.protocol.proofs.Recovery.Laws.Changes.{Key, pair_eq}
use Rattle.protocol.proofs.Recovery.Laws.Lookups.{mem_removed, removed_key, nodup_removed, entry_key}
use Rattle.protocol.proofs.Recovery.Invariant.World.{World, put_run, put_mem, put_wire, nothing_pending, counted, Owed, Place, HasEntry, Tick, Stable, SentKey, InLog, LoggedAs}
use Rattle.protocol.proofs.Recovery.Invariant.Clauses.{Chare, Sender, Image, Images, Heights, Table, Tables, Ordered, Remembered, Noted, Log, Logs, Copies, Notes, Fits, PacketOk, InvP}
use Rattle.protocol.proofs.Recovery.Invariant.Counts.{counted_nothing, desk_now, chare_not_desk}
use Rattle.protocol.proofs.Recovery.Invariant.Senders.{local_chare, key_receiver}
use Rattle.protocol.proofs.Recovery.Steps.Settle.{logged_tick}

-- w has the run without the message; the desk's next one to c is the one withdrawn
module _ (w : World) (c value hops : ℕ) where
  abbrev withdrawn : ℕ
  withdrawn = w.run.sn 0 c + 1

  -- the run before
  abbrev before : World
  before = put_run w (run_send w.run 0 c value hops)

  -- the desk's memory afterwards
  abbrev pub desk_after : Memory → Memory
  desk_after m = with_log (with_sn m (upd c (w.run.sn 0 c) m.sn)) (remove1 (for_receiver c (w.run.sn 0 c + 1)) m.log)

  abbrev mem : ℕ → Memory
  mem = upd 0 (desk_after (w.mem 0)) w.mem

  abbrev pub without : World
  without = put_wire (put_mem w (upd 0 (desk_after (w.mem 0)) w.mem)) (keep (is_other c (w.run.sn 0 c + 1)) w.wire)

  abbrev Named : ℕ → ℕ → ℕ → Type 0
  Named s r n = (s ≡ 0) × (r ≡ c) × (n ≡ withdrawn)

  module _ (ok : RunOk w.job w.run) (inv : InvP nothing_pending before) (no_entry : (e : Entry) → e ∈ (w.mem c).table → entry_key e ≢ (0, withdrawn)) where
    -- ---- what the shorter run has
    kept : (m : Message) → Sent before.run m → ¬ Named m.sender m.receiver m.sn → Sent w.run m
    kept m h d = elim (sent_before w.run 0 c value hops m h) [
      | inl k ↦ k
      | inr e ↦ absurd (d (ap (λ (m : Message). m.sender) e, ap (λ (m : Message). m.receiver) e, ap (λ (m : Message). m.sn) e))
    ]

    key_kept : {s r n : ℕ} → ¬ Named s r n → SentKey before.run s r n → SentKey w.run s r n
    key_kept d k = record {
      message = k.message;
      sent = kept k.message k.sent (λ e. d (sym k.of_sender ∙ e.0, sym k.of_receiver ∙ e.1, sym k.of_sn ∙ e.2));
      of_sender = k.of_sender;
      of_receiver = k.of_receiver;
      of_sn = k.of_sn;
    }

    back : (m : Message) → Sent w.run m → Sent before.run m
    back = sent_after ok 0 c value hops

    -- ---- nobody names the message
    not_worked : In (w.run.worked c) 0 withdrawn → ⊥
    not_worked i =
        let h = sent_below ok 0 c i.message (worked_sent ok c i.message i.member) i.of_sender (ok.to c i.message i.member) in
        let e = i.of_sn in
        omega arith

    not_ticked : {s r n t : ℕ} → Named s r n → Tick w.run w.mem r s n t → ⊥
    not_ticked {t = t} (a, b, d) (inl p) = not_worked (place_in (subst₃ (λ s r n. Place (w.run.worked r) t s n) a b d p))
    not_ticked (a, b, d) (inr e) = no_entry e.entry (subst (λ r. e.entry ∈ (w.mem r).table) b e.member) (pair_eq (e.of_sender ∙ a) (e.of_sn ∙ d))

    not_stable : {s r n : ℕ} → Named s r n → Stable w.run w.stable r s n → ⊥
    not_stable e h = not_ticked e (inl h.worked)

    not_local : {s r n : ℕ} → Named s r n → Chare w.job r → is_local w.job s r ≡ true → ⊥
    not_local {s} {r} e k l = local_chare w.job s r l k (ap w.job.home e.0 ∙ inv.job.desk)

    -- but an ASK
    only_ask : (s r n : ℕ) (q : Content) → Chare w.job r → Fits before s r n q → Named s r n → kind q ≡ 1
    unfolding run_send kind
    only_ask s r n ASK k f e = refl
    only_ask s r n GRANT-old k f e = absurd (not_stable e (record { tn = f.1.tn; low = f.1.low; worked = f.1.worked }))
    only_ask s r n (GRANT-received t) k f e = absurd (not_ticked e f.1)
    only_ask s r n (GRANT-new t) k f e = absurd (not_ticked e f.1)
    only_ask s r n (DATA v h) k f e = absurd (elim (f.2 (ap (λ s. w.status (w.job.home s)) e.0 ∙ ap w.status inv.job.desk ∙ inv.machines.desk)) [
      | inl t ↦ not_ticked e (logged_tick (subst (λ a. Log w.job before.run w.stable w.mem a (w.mem a).log (w.mem a).sn) (sym e.0) (inv.logs 0 (inl refl))) t.found t.some_tn)
      | inr h ↦ not_stable e (record { tn = h.tn; low = h.low; worked = h.worked })
    ])
    only_ask s r n (NOTE t) k f e = absurd (not_local e k f.0)
    only_ask s r n ACK k f e = absurd (not_local e k f.0)

    is_its_ask : (z : Packet) → kind z.content ≡ 1 → Named z.sender z.receiver z.sn → is_named 1 0 c withdrawn z ≡ true
    unfolding is_named
    is_its_ask z k e = and_i _ _ (and_i _ _ (and_i _ _ (eq-eqb _ _ k) (eq-eqb _ _ e.0)) (eq-eqb _ _ e.1)) (eq-eqb _ _ e.2)

    others : (z : Packet) → PacketOk before z → is_other c withdrawn z ≡ true → ¬ Named z.sender z.receiver z.sn
    unfolding is_other
    others z p o e = true_not_false
        (is_its_ask z (only_ask z.sender z.receiver z.sn z.content (key_receiver inv.domain p.key) p.fits e) e)
        (not_true (is_named 1 0 c withdrawn z) o)

    -- ---- memories
    at : (a : ℕ) → a ≢ 0 → mem a ≡ w.mem a
    at a d = upd_other 0 _ w.mem a d

    chare_at : (a : ℕ) → Chare w.job a → mem a ≡ w.mem a
    chare_at a k = at a (chare_not_desk inv.job a k)

    same_table : (r : ℕ) → (mem r).table ≡ (w.mem r).table
    same_table = upd_ind (λ r m. m.table ≡ (w.mem r).table) 0 _ w.mem refl (λ r _. refl)

    old : {r : ℕ} {e : Entry} → e ∈ (mem r).table → e ∈ (w.mem r).table
    old {r} {e} i = subst (e ∈◌) (same_table r) i

    tick : {r s n t : ℕ} → Tick w.run w.mem r s n t → Tick w.run mem r s n t
    tick (inl p) = inl p
    tick {r} {s} {n} {t} (inr e) = inr (subst (λ l. HasEntry l s n t) (sym (same_table r)) e)

    log_kept : (a : ℕ) {r n t : ℕ} → ¬ Named a r n → LoggedAs (w.mem a).log r n t → LoggedAs (mem a).log r n t
    log_kept a {r} {n} {t} = upd_ind (λ a m. ¬ Named a r n → LoggedAs (w.mem a).log r n t → LoggedAs m.log r n t) 0 _ w.mem
        (λ d y. record {
          logged = y.logged;
          member = mem_removed c withdrawn y.member (λ q. d (refl, sym y.of_receiver ∙ ap (λ (k : Key). k.0) q, sym y.of_sn ∙ ap (λ (k : Key). k.1) q));
          of_receiver = y.of_receiver;
          of_sn = y.of_sn;
          of_tn = y.of_tn;
        })
        (λ a _ d y. y) a

    desk_before : (w.mem 0).sn ≡ upd c withdrawn (w.run.sn 0)
    desk_before = desk_now inv.images ∙ send_sn_same w.run 0 c value hops

    last : (w.mem 0).sn c ≡ withdrawn
    last = ap (λ f. f c) desk_before ∙ upd_same c withdrawn (w.run.sn 0)

    -- ---- clause by clause
    images : Images w.job w.run nothing_pending mem
    unfolding run_send Owed
    images = record {
      image = λ r k. subst (λ m. Image w.job w.run r m (counted nothing_pending r m.sn)) (sym (chare_at r k))
          (let i = inv.images.image r k in record { reached = i.reached; state = i.state; counts = i.counts; marks = i.marks });
      desk = counted_nothing 0 (mem 0).sn ∙ ap (λ (m : Memory). m.sn) (upd_same 0 (desk_after (w.mem 0)) w.mem)
          ∙ ap (upd c (w.run.sn 0 c)) desk_before ∙ upd_upd c _ _ (w.run.sn 0) ∙ upd_self c (w.run.sn 0);
      owed = tt;
      owing = inl refl;
      owed_to = all_nil _;
    }

    heights : Heights w.job w.run w.stable w.status w.target mem w.held w.copy
    unfolding run_send
    heights =
        let h = inv.heights in
        record {
          normal = λ r k u. ap (λ (m : Memory). m.height) (chare_at r k) ∙ h.normal r k u;
          catching_up = λ r k u. rw (chare_at r k) (h.catching_up r k u);
          down = λ r k u. ap (λ (m : Memory). m.height) (chare_at r k) ∙ h.down r k u;
          above_stable = λ r k. rw (chare_at r k) (h.above_stable r k);
          copied = h.copied;
        }

    tables : Tables w.job w.run w.stable mem
    unfolding run_send message_of
    tables r k = subst (Table w.run r (w.stable r)) (sym (same_table r)) (record {
      complete = t.complete;
      positive = t.positive;
      tns = t.tns;
      keys = t.keys;
      sent = λ e i. key_kept (differs e i) (t.sent e i);
      past = t.past;
      fresh = t.fresh;
      reach = t.reach;
      body = λ e i u. kept (message_of r e) (t.body e i u) (differs e i);
    })
      where
        t : Table before.run r (w.stable r) (w.mem r).table
        t = inv.tables r k

        differs : (e : Entry) → e ∈ (w.mem r).table → ¬ Named e.sender r e.sn
        differs e i (a, b, d) = no_entry e (subst (λ r. e ∈ (w.mem r).table) b i) (pair_eq a d)

    ordered : Ordered w.job w.run mem
    unfolding run_send
    ordered = record {
      received = λ r k e i a b. subst (λ m. e.sn ≤ m.sn r) (sym (chare_at _ (local_chare w.job e.sender r a k))) (inv.ordered.received r k e (old i) a b);
      worked = λ r s n k a b. subst (λ m. n ≤ m.sn r) (sym (chare_at s (local_chare w.job s r a k)))
          (inv.ordered.worked r s n k a (rw (chare_at r k) at b));
    }

    remembered : Remembered w.job w.run w.stable w.status mem
    unfolding run_send
    remembered r k e i o a b d = log_kept e.sender (λ q. no_entry e (subst (λ r. e ∈ (w.mem r).table) q.1 (old i)) (pair_eq q.0 q.2)) (inv.remembered r k e (old i) o a b d)

    noted : Noted w.job w.run w.stable mem w.held w.copy w.notes
    unfolding run_send
    noted = record {
      unnoted = λ r k e i. inv.noted.unnoted r k e (old i);
      noted = λ r k u e i. inv.noted.noted r k u e (old i);
    }

    other_log : {a : ℕ} {l : List Logged} {f : ℕ → ℕ} → a ≢ 0 → Log w.job before.run w.stable w.mem a l f → Log w.job w.run w.stable mem a l f
    unfolding run_send
    other_log d g = record {
      sent = λ y i. kept y.message (g.sent y i) (λ e. d (sym (g.owner y i) ∙ e.0));
      owner = g.owner;
      counted = g.counted;
      keys = g.keys;
      tick = λ y i q. tick (g.tick y i q);
      local = g.local;
      whole = λ r n a b. elim (g.whole r n a b) [ inl i ↦ inl i | inr h ↦ inr (record { tn = h.tn; low = h.low; worked = h.worked }) ];
    }

    in_removed : {r n : ℕ} → ¬ ((r ≡ c) × (n ≡ withdrawn)) → InLog (w.mem 0).log r n ⊎ Stable before.run w.stable r 0 n
        → InLog (remove1 (for_receiver c withdrawn) (w.mem 0).log) r n ⊎ Stable w.run w.stable r 0 n
    unfolding run_send
    in_removed d (inl i) = inl (record {
      logged = i.logged;
      member = mem_removed c withdrawn i.member (λ q. d (sym i.of_receiver ∙ ap (λ (k : Key). k.0) q, sym i.of_sn ∙ ap (λ (k : Key). k.1) q));
      of_receiver = i.of_receiver;
      of_sn = i.of_sn;
    })
    in_removed d (inr h) = inr (record { tn = h.tn; low = h.low; worked = h.worked })

    desk_log : Log w.job w.run w.stable mem 0 (remove1 (for_receiver c withdrawn) (w.mem 0).log) (upd c (w.run.sn 0 c) (w.mem 0).sn)
    unfolding run_send
    desk_log =
        let l = (w.mem 0).log in
        let g = inv.logs 0 (inl refl) in
        let was : (y : Logged) → y ∈ remove1 (for_receiver c withdrawn) l → y ∈ l = λ y i. remove1_mem (for_receiver c withdrawn) l i in
        record {
          sent = λ y i. kept y.message (g.sent y (was y i)) (λ e. removed_key c withdrawn l g.keys i (pair_eq e.1 e.2));
          owner = λ y i. g.owner y (was y i);
          counted = λ y i. upd_ind (λ r k. y.message.receiver ≡ r → y.message.sn ≤ k) c _ (w.mem 0).sn
              (λ e.
              let h = g.counted y (was y i) in
              let p = ap (w.mem 0).sn e ∙ last in
              let d : y.message.sn ≢ withdrawn = λ q. removed_key c withdrawn l g.keys i (pair_eq e q) in
              omega arith)
              (λ r _ e. subst (λ r. y.message.sn ≤ (w.mem 0).sn r) e (g.counted y (was y i)))
              y.message.receiver refl;
          keys = nodup_removed c withdrawn l g.keys;
          tick = λ y i q. tick (g.tick y (was y i) q);
          local = λ y i. g.local y (was y i);
          whole = λ r n a. upd_ind (λ r k. n ≤ k → InLog (remove1 (for_receiver c withdrawn) l) r n ⊎ Stable w.run w.stable r 0 n) c _ (w.mem 0).sn
              (λ h. let p = last in in_removed (λ e. let q = e.1 in omega arith) (g.whole c n a (omega arith)))
              (λ r d h. in_removed (λ e. d e.0) (g.whole r n a h)) r;
        }

    logs : Logs w.job w.run w.stable mem
    logs a k = upd_ind (λ a m. Sender w.job a → Log w.job w.run w.stable mem a m.log m.sn) 0 (desk_after (w.mem 0)) w.mem
        (λ _. desk_log) (λ a d k. other_log d (inv.logs a k)) a k

    copies : Copies w.job w.run w.stable mem w.held w.copy
    unfolding run_send
    copies r k u =
        let d = chare_not_desk inv.job r k in
        let m = inv.copies r k u in
        record {
          image = (let i = m.image in record { reached = i.reached; state = i.state; counts = i.counts; marks = i.marks });
          log = other_log d m.log;
          ordered = m.ordered;
          kept = λ y i q. elim (m.kept y i q) [ inl h ↦ inl (log_kept r (λ e. d e.0) h) | inr h ↦ inr h ];
          local = m.local;
          table = λ e i. let (a, t) = m.table e i in (a, tick t);
        }

    notes : Notes w.job w.run mem w.notes
    unfolding run_send
    notes q y i = let (a, b, d, t) = inv.notes q y i in (a, b, d, tick t)

    fits : (s r n : ℕ) (q : Content) → ¬ Named s r n → Chare w.job r → Fits before s r n q → Fits without s r n q
    unfolding run_send
    fits s r n ASK d k f = f
    fits s r n GRANT-old d k f = (f.0, record { tn = f.1.tn; low = f.1.low; worked = f.1.worked }, f.2)
    fits s r n (GRANT-received t) d k f = (f.0, tick f.1, f.2)
    fits s r n (GRANT-new t) d k f = (f.0, tick f.1, f.2)
    fits s r n (DATA v h) d k f = (
      f.0,
      kept _ f.1 d,
      λ u. elim (f.2 u) [
        | inl t ↦ inl (record { tn = t.tn; some_tn = t.some_tn; found = log_kept s d t.found })
        | inr t ↦ inr (record { tn = t.tn; low = t.low; worked = t.worked })
      ],
    )
    fits s r n (NOTE t) d k f = (f.0, tick f.1, subst (λ m. n ≤ m.sn r) (sym (chare_at s (local_chare w.job s r f.0 k))) f.2, f.3)
    fits s r n ACK d k f = (f.0, subst (λ m. n ≤ m.sn r) (sym (chare_at s (local_chare w.job s r f.0 k))) f.1, λ u e i. f.2 u e (old i))

    pub withdraw_step : InvP nothing_pending without
    withdraw_step = record {
      job = inv.job;
      domain = record { receiver = λ m h. inv.domain.receiver m (back m h); sender = λ m h. inv.domain.sender m (back m h) };
      machines = inv.machines;
      images = images;
      heights = heights;
      tables = tables;
      ordered = ordered;
      remembered = remembered;
      noted = noted;
      logs = logs;
      copies = copies;
      notes = notes;
      wire = λ z i.
          let (j, o) = keep_mem (is_other c withdrawn) w.wire i in
          let p = inv.wire z j in
          let d = others z p o in
          record { key = key_kept d p.key; fits = fits z.sender z.receiver z.sn z.content d (key_receiver inv.domain p.key) p.fits };
    }
