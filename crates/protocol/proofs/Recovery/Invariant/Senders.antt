-- The invariant reads only the memories of the desk and of chares: others can be anything.
use Rattle.std.specs.Prelude.{◌≡◌, refl, true, not, List, ℕ, ◌≤◌, max, length, take, eqb}
use Rattle.std.proofs.Common.{sym, ap, ◌∙◌, subst, inl, inr, eqb-true}
use Rattle.lists.specs.Tests.{and_r}
use Rattle.lists.specs.Lists.{◌∈◌}
use Rattle.protocol.specs.declared.Logged.{Logged}
use Rattle.protocol.specs.declared.Entry.{Entry}
use Rattle.protocol.specs.declared.Content.{Content}
use Rattle.protocol.specs.declared.Content.TheVariants.{Ask as ASK, GrantOld as GRANT-old, GrantReceived as GRANT-received, GrantNew as GRANT-new, Data as DATA, Note as NOTE, Ack as ACK}
use Rattle.protocol.specs.Parts.{Job, Memory}
use Rattle.protocol.specs.Sending.{is_local}
use Rattle.protocol.specs.CrashFree.{Run}
use Rattle.protocol.proofs.Recovery.Laws.Marks.{In}
use Rattle.protocol.proofs.Recovery.Invariant.World.{World, put_mem, Pending, counted, Owed, HasEntry, Tick, SentKey, LoggedAs, HasTicket}
use Rattle.protocol.proofs.Recovery.Invariant.Clauses.{Chare, Sender, Domain, Image, Images, Heights, Table, Tables, Ordered, Remembered, Noted, Log, Logs, Copies, Notes, Fits, InvP}

-- what is sent is from a sender to a chare
module _ {j : Job} {x : Run} (d : Domain j x) {s r n : ℕ} (k : SentKey x s r n) where
  pub key_sender : Sender j s
  key_sender = subst (Sender j) k.of_sender (d.sender k.message k.sent)

  pub key_receiver : Chare j r
  key_receiver = subst (Chare j) k.of_receiver (d.receiver k.message k.sent)

-- whoever is local to a chare is one
pub local_chare : (j : Job) (a b : ℕ) → is_local j a b ≡ true → Chare j b → Chare j a
unfolding is_local
local_chare j a b e k h = k (sym (eqb-true _ _ (and_r (not (eqb a 0)) _ e)) ∙ h)

module _ {p : Pending} {w : World} (inv : InvP p w) (mem : ℕ → Memory) (same : (c : ℕ) → Sender w.job c → mem c ≡ w.mem c) where
  -- what holds of the old memory of a sender holds of the new one
  put : (P : Memory → Type 0) {c : ℕ} → Sender w.job c → P (w.mem c) → P (mem c)
  put P {c} k h = subst P (sym (same c k)) h

  -- an entry of the new table of a chare is in the old one
  old : {c : ℕ} {e : Entry} → Chare w.job c → e ∈ (mem c).table → e ∈ (w.mem c).table
  old {c} {e} k i = subst (λ m. e ∈ m.table) (same c (inr k)) i

  tick : {r s n t : ℕ} → Chare w.job r → Tick w.run w.mem r s n t → Tick w.run mem r s n t
  tick k (inl h) = inl h
  tick {r} {s} {n} {t} k (inr h) = inr (put (λ m. HasEntry m.table s n t) (inr k) h)

  images : Images w.job w.run p mem
  images = record {
    image = λ c k. put (λ m. Image w.job w.run c m (counted p c m.sn)) (inr k) (inv.images.image c k);
    desk = put (λ m. counted p 0 m.sn ≡ w.run.sn 0) (inl refl) inv.images.desk;
    owed = put (λ m. Owed w.run p.sender p.receivers p.value p.hops m.sn) inv.images.owing inv.images.owed;
    owing = inv.images.owing;
    owed_to = inv.images.owed_to;
  }

  heights : Heights w.job w.run w.stable w.status w.target mem w.held w.copy
  heights = record {
    normal = λ c k u. ap (λ m. m.height) (same c (inr k)) ∙ inv.heights.normal c k u;
    catching_up = λ c k u. put (λ m. length (w.run.worked c) ≤ max (w.target c) m.height) (inr k) (inv.heights.catching_up c k u);
    down = λ c k u. ap (λ m. m.height) (same c (inr k)) ∙ inv.heights.down c k u;
    above_stable = λ c k. put (λ m. w.stable c ≤ m.height) (inr k) (inv.heights.above_stable c k);
    copied = inv.heights.copied;
  }

  tables : Tables w.job w.run w.stable mem
  tables c k = put (λ m. Table w.run c (w.stable c) m.table) (inr k) (inv.tables c k)

  ordered : Ordered w.job w.run mem
  ordered = record {
    received = λ c k e i a b.
        let g = old k i in
        put (λ m. e.sn ≤ m.sn c) (key_sender inv.domain ((inv.tables c k).sent e g)) (inv.ordered.received c k e g a b);
    worked = λ c s n k a b.
        put (λ m. n ≤ m.sn c) (inr (local_chare w.job s c a k))
        (inv.ordered.worked c s n k a (subst (λ m. In (take m.height (w.run.worked c)) s n) (same c (inr k)) b));
  }

  remembered : Remembered w.job w.run w.stable w.status mem
  remembered c k e i o a b d =
      let g = old k i in
      put (λ m. LoggedAs m.log c e.sn e.tn) (key_sender inv.domain ((inv.tables c k).sent e g)) (inv.remembered c k e g o a b d)

  noted : Noted w.job w.run w.stable mem w.held w.copy w.notes
  noted = record {
    unnoted = λ c k e i. inv.noted.unnoted c k e (old k i);
    noted = λ c k u e i. inv.noted.noted c k u e (old k i);
  }

  log : {a : ℕ} {l : List Logged} {f : ℕ → ℕ} → Log w.job w.run w.stable w.mem a l f → Log w.job w.run w.stable mem a l f
  log m = record {
    sent = m.sent;
    owner = m.owner;
    counted = m.counted;
    keys = m.keys;
    tick = λ y i d. tick (inv.domain.receiver _ (m.sent y i)) (m.tick y i d);
    local = m.local;
    whole = m.whole;
  }

  logs : Logs w.job w.run w.stable mem
  logs a k = put (λ m. Log w.job w.run w.stable mem a m.log m.sn) k (log (inv.logs a k))

  copies : Copies w.job w.run w.stable mem w.held w.copy
  copies c k u =
      let m = inv.copies c k u in
      record {
        image = m.image;
        log = log m.log;
        ordered = m.ordered;
        kept = λ y i d. elim (m.kept y i d) [
          | inl h ↦ inl (put (λ m. LoggedAs m.log y.message.receiver y.message.sn y.tn) (inr k) h)
          | inr h ↦ inr h
        ];
        local = m.local;
        table = λ e i. let (a, t) = m.table e i in (a, tick k t);
      }

  notes : Notes w.job w.run mem w.notes
  notes q y i = let (a, b, d, t) = inv.notes q y i in (a, b, d, tick b t)

  fits : (s r n : ℕ) (c : Content) → Sender w.job s → Chare w.job r → Fits w s r n c → Fits (put_mem w mem) s r n c
  fits s r n ASK a b h = h
  fits s r n GRANT-old a b h = h
  fits s r n (GRANT-received t) a b h = (h.0, tick b h.1, h.2)
  fits s r n (GRANT-new t) a b h = (h.0, tick b h.1, h.2)
  fits s r n (DATA v g) a b h = (h.0, h.1, λ u. elim (h.2 u) [ inl k ↦ inl (put (λ m. HasTicket m.log r n) a k) | inr k ↦ inr k ])
  fits s r n (NOTE t) a b h = (h.0, tick b h.1, put (λ m. n ≤ m.sn r) a h.2, h.3)
  fits s r n ACK a b h = (h.0, put (λ m. n ≤ m.sn r) a h.1, λ u e i. h.2 u e (old b i))

  pub inv_senders : InvP p (put_mem w mem)
  inv_senders = record {
    job = inv.job;
    domain = inv.domain;
    machines = inv.machines;
    images = images;
    heights = heights;
    tables = tables;
    ordered = ordered;
    remembered = remembered;
    noted = noted;
    logs = logs;
    copies = copies;
    notes = notes;
    wire = λ z i.
        let m = inv.wire z i in
        record { key = m.key; fits = fits z.sender z.receiver z.sn z.content (key_sender inv.domain m.key) (key_receiver inv.domain m.key) m.fits };
  }
