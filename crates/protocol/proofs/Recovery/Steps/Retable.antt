-- The table of one chare is replaced: what the new one must be for the invariant to stand.
use Rattle.std.specs.Prelude.{◌≡◌, refl, true, false, List, ℕ, ◌≤◌, ◌<◌, max, length, take}
use Rattle.std.proofs.Common.{sym, ap, ◌∙◌, subst, inl, inr, le_of_eq}
use Rattle.lists.specs.Map.{upd, upd_ind}
use Rattle.lists.specs.Lists.{All}
use Rattle.protocol.specs.declared.Entry.{Entry}
use Rattle.protocol.specs.Parts.{Job, Memory}
use Rattle.protocol.specs.Setters.{with_table}
use Rattle.protocol.specs.Sending.{is_local}
use Rattle.protocol.specs.CrashFree.{Run}
use Rattle.protocol.proofs.Recovery.Laws.Marks.{In, marked_same}
use Rattle.protocol.proofs.Recovery.Invariant.World.{World, Pending, put_mem, counted, Owed, HasEntry, SentKey, LoggedAs, HasTicket}
use Rattle.protocol.proofs.Recovery.Invariant.Clauses.{Chare, Sender, Image, Images, Heights, Table, Ordered, Remembers, Keeps, Noted, Log, Logs, Copies, Acks, InvP}
use Rattle.protocol.proofs.Recovery.Invariant.Ticks.{tick_mem}
use Rattle.protocol.proofs.Recovery.Invariant.Later.{Later, Acked, wire_later, log_later, notes_later}

abbrev pub put_table : World → ℕ → List Entry → World
put_table w r l = put_mem w (upd r (with_table (w.mem r) l) w.mem)

-- l is fit to be the table of r
pub record Retabled (w : World) (r : ℕ) (l : List Entry) : Type 0 where
  pub table : Table w.run r (w.stable r) l
  pub received : All (λ e. is_local w.job e.sender r ≡ true → e.received ≡ true → e.sn ≤ (w.mem e.sender).sn r) l
  pub remembered : Remembers w.job w.run w.stable w.status w.mem r l
  pub unnoted : All (λ e. e.noted ≡ false → (is_local w.job e.sender r ≡ true) × (length (w.run.worked r) < e.tn)) l
  pub noted : w.held (w.job.home r) ≡ true → Keeps w.job w.stable w.copy w.notes r l
  pub entered : (s n t : ℕ) → HasEntry (w.mem r).table s n t → HasEntry l s n t
  pub acked : (s n : ℕ) → SentKey w.run s r n → is_local w.job s r ≡ true → n ≤ (w.mem s).sn r → Acked w s r n
      → w.held (w.job.home r) ≡ true → Acks w s r n l

pub image_table : {j : Job} {x : Run} {c : ℕ} {m : Memory} {f : ℕ → ℕ} (l : List Entry) → Image j x c m f → Image j x c (with_table m l) f
image_table {m = m} l i = record {
  reached = i.reached;
  state = i.state;
  counts = i.counts;
  marks = marked_same (with_table m l) refl refl i.marks;
}

module _ (w : World) (r : ℕ) (l : List Entry) where
  -- what holds of r with its new table, and of all as they were, holds of all
  at : (P : ℕ → Memory → Type 0) → P r (with_table (w.mem r) l) → ((c : ℕ) → P c (w.mem c)) → (c : ℕ) → P c ((put_table w r l).mem c)
  at P new old = upd_ind P r (with_table (w.mem r) l) w.mem new (λ c _. old c)

  same_counts : (a : ℕ) → (w.mem a).sn ≡ ((put_table w r l).mem a).sn
  same_counts = at (λ a m. (w.mem a).sn ≡ m.sn) refl (λ a. refl)

  same_log : (a : ℕ) → (w.mem a).log ≡ ((put_table w r l).mem a).log
  same_log = at (λ a m. (w.mem a).log ≡ m.log) refl (λ a. refl)

  same_height : (a : ℕ) → (w.mem a).height ≡ ((put_table w r l).mem a).height
  same_height = at (λ a m. (w.mem a).height ≡ m.height) refl (λ a. refl)

module _ (w : World) (r : ℕ) (l : List Entry) (h : Retabled w r l) where
  later_table : Later w (put_table w r l)
  later_table = record {
    job = refl;
    sent = λ m i. i;
    stable = λ c s n i. i;
    tick = λ c s n t. tick_mem w.run w.mem (put_table w r l).mem c
        (at w r l (λ c m. (s n t : ℕ) → HasEntry (w.mem c).table s n t → HasEntry m.table s n t) h.entered (λ c s n t e. e) c);
    up = λ p i. i;
    counts = λ s c. le_of_eq (ap (λ f. f c) (same_counts w r l s));
    backed = λ s c n k e b u. elim (b u) [ inl i ↦ inl (subst (λ l. HasTicket l c n) (same_log w r l s) i) | inr i ↦ inr i ];
    acked = λ s c n. at w r l
        (λ c m. SentKey w.run s c n → is_local w.job s c ≡ true → n ≤ (w.mem s).sn c → Acked w s c n
        → w.held (w.job.home c) ≡ true → Acks w s c n m.table)
        (h.acked s n) (λ c k e b a. a) c;
  }

module _ {p : Pending} {w : World} (inv : InvP p w) (r : ℕ) (l : List Entry) (h : Retabled w r l) where
  images : Images w.job w.run p (put_table w r l).mem
  images = record {
    image = at w r l (λ c m. Chare w.job c → Image w.job w.run c m (counted p c m.sn))
        (λ i. image_table l (inv.images.image r i)) inv.images.image;
    desk = ap (counted p 0) (sym (same_counts w r l 0)) ∙ inv.images.desk;
    owed = subst (Owed w.run p.sender p.receivers p.value p.hops) (same_counts w r l p.sender) inv.images.owed;
    owing = inv.images.owing;
    owed_to = inv.images.owed_to;
  }

  heights : Heights w.job w.run w.stable w.status w.target (put_table w r l).mem w.held w.copy
  heights = record {
    normal = λ c i u. sym (same_height w r l c) ∙ inv.heights.normal c i u;
    catching_up = λ c i u. subst (λ k. length (w.run.worked c) ≤ max (w.target c) k) (same_height w r l c) (inv.heights.catching_up c i u);
    down = λ c i u. sym (same_height w r l c) ∙ inv.heights.down c i u;
    above_stable = λ c i. subst (w.stable c ≤◌) (same_height w r l c) (inv.heights.above_stable c i);
    copied = inv.heights.copied;
  }

  ordered : Ordered w.job w.run (put_table w r l).mem
  ordered = record {
    received = λ c i e k a b. subst (λ f. e.sn ≤ f c) (same_counts w r l e.sender)
        (at w r l (λ c m. Chare w.job c → All (λ e. is_local w.job e.sender c ≡ true → e.received ≡ true → e.sn ≤ (w.mem e.sender).sn c) m.table)
        (λ _. h.received) inv.ordered.received c i e k a b);
    worked = λ c s n i a b. subst (λ f. n ≤ f c) (same_counts w r l s)
        (inv.ordered.worked c s n i a (subst (λ k. In (take k (w.run.worked c)) s n) (sym (same_height w r l c)) b));
  }

  noted : Noted w.job w.run w.stable (put_table w r l).mem w.held w.copy w.notes
  noted = record {
    unnoted = at w r l
        (λ c m. Chare w.job c → All (λ e. e.noted ≡ false → (is_local w.job e.sender c ≡ true) × (length (w.run.worked c) < e.tn)) m.table)
        (λ _. h.unnoted) inv.noted.unnoted;
    noted = at w r l
        (λ c m. Chare w.job c → w.held (w.job.home c) ≡ true → Keeps w.job w.stable w.copy w.notes c m.table)
        (λ _. h.noted) inv.noted.noted;
  }

  logs : Logs w.job w.run w.stable (put_table w r l).mem
  logs = at w r l (λ a m. Sender w.job a → Log w.job w.run w.stable (put_table w r l).mem a m.log m.sn)
      (λ i. log_later (later_table w r l h) r _ _ (inv.logs r i))
      (λ a i. log_later (later_table w r l h) a _ _ (inv.logs a i))

  copies : Copies w.job w.run w.stable (put_table w r l).mem w.held w.copy
  copies c i u =
      let k = inv.copies c i u in
      record {
        image = k.image;
        log = log_later (later_table w r l h) c _ _ k.log;
        ordered = k.ordered;
        kept = λ y m q. elim (k.kept y m q) [
          | inl a ↦ inl (subst (λ l. LoggedAs l y.message.receiver y.message.sn y.tn) (same_log w r l c) a)
          | inr a ↦ inr a
        ];
        local = k.local;
        table = λ e m. let a = k.table e m in (a.0, (later_table w r l h).tick _ _ _ _ a.1);
      }

  pub table_new : InvP p (put_table w r l)
  table_new = record {
    job = inv.job;
    domain = inv.domain;
    machines = inv.machines;
    images = images;
    heights = heights;
    tables = at w r l (λ c m. Chare w.job c → Table w.run c (w.stable c) m.table) (λ _. h.table) inv.tables;
    ordered = ordered;
    remembered = λ c i e k o a b d. subst (λ l. LoggedAs l c e.sn e.tn) (same_log w r l e.sender)
        (at w r l (λ c m. Chare w.job c → Remembers w.job w.run w.stable w.status w.mem c m.table)
        (λ _. h.remembered) inv.remembered c i e k o a b d);
    noted = noted;
    logs = logs;
    copies = copies;
    notes = notes_later (later_table w r l h) w.notes inv.notes;
    wire = wire_later (later_table w r l h) w.wire inv.wire;
  }
