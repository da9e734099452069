-- Only logs and SN counts change: every clause that reads neither stays, and what is left to show is about them.
use Rattle.std.specs.Prelude.{◌≡◌, refl, ◌⊎◌, ◌≢◌, List, ℕ, ◌≤◌, take}
use Rattle.std.proofs.Common.{◌∙◌, inl, inr, le_refl, arith}
use Rattle.lists.specs.Map.{upd, upd_ind, upd_ind₂}
use Rattle.lists.specs.Lists.{All}
use Rattle.protocol.specs.declared.Logged.{Logged}
use Rattle.protocol.specs.Parts.{Memory}
use Rattle.protocol.specs.Setters.{with_log, with_sn}
use Rattle.protocol.proofs.Recovery.Laws.Marks.{Marked, side, sides}
use Rattle.protocol.proofs.Recovery.Invariant.World.{World, put_mem, Pending, counted, Owed, Place, LoggedAs}
use Rattle.protocol.proofs.Recovery.Invariant.Clauses.{Chare, Sender, Image, Images, Heights, Ordered, Remembered, Noted, Log, Copies, InvP}
use Rattle.protocol.proofs.Recovery.Invariant.Senders.{key_sender, inv_senders}
use Rattle.protocol.proofs.Recovery.Invariant.Later.{Later, wire_later, log_later}

-- the memories with SN counts f and logs l
abbrev pub relog : (ℕ → Memory) → (ℕ → ℕ → ℕ) → (ℕ → List Logged) → ℕ → Memory
relog mem f l c = with_log (with_sn (mem c) (f c)) (l c)

-- ticket t of a's message n to r is worked, and the copied height is past it
abbrev pub Past : World → ℕ → ℕ → ℕ → ℕ → Type 0
Past w a r n t = (t ≤ w.stable r) × Place (w.run.worked r) t a n

-- a ticketed message of a's log is in the log l, unless its ticket is worked and stable
abbrev pub Stays : World → ℕ → List Logged → Type 0
Stays w a l = (r n t : ℕ) → t ≢ 0 → LoggedAs (w.mem a).log r n t → LoggedAs l r n t ⊎ Past w a r n t

-- what is to show: counts agree once the pending messages are sent, and only grow; the logs are logs, and what was
-- ticketed stays
pub record Relogged (p q : Pending) (w : World) (f : ℕ → ℕ → ℕ) (l : ℕ → List Logged) : Type 0 where
  pub counts : (c : ℕ) → counted q c (f c) ≡ counted p c (w.mem c).sn
  pub owed : Owed w.run q.sender q.receivers q.value q.hops (f q.sender)
  pub owing : Sender w.job q.sender
  pub owed_to : All (Chare w.job) q.receivers
  pub grown : (c r : ℕ) → (w.mem c).sn r ≤ f c r
  pub logs : (a : ℕ) → Sender w.job a → Log w.job w.run w.stable w.mem a (l a) (f a)
  pub stays : (a : ℕ) → Sender w.job a → Stays w a (l a)

module _ {p q : Pending} {w : World} (f : ℕ → ℕ → ℕ) (l : ℕ → List Logged) (inv : InvP p w) (h : Relogged p q w f l) where
  marked : (c : ℕ) → Marked (w.mem c) (take (w.mem c).height (w.run.worked c)) → Marked (relog w.mem f l c) (take (w.mem c).height (w.run.worked c))
  marked c m = sides (relog w.mem f l c) (side m)

  image : (c : ℕ) → Image w.job w.run c (w.mem c) (counted p c (w.mem c).sn) → Image w.job w.run c (relog w.mem f l c) (counted q c (f c))
  image c m = record { reached = m.reached; state = m.state; counts = h.counts c ∙ m.counts; marks = marked c m.marks }

  images : Images w.job w.run q (relog w.mem f l)
  images = record {
    image = λ c k. image c (inv.images.image c k);
    desk = h.counts 0 ∙ inv.images.desk;
    owed = h.owed;
    owing = h.owing;
    owed_to = h.owed_to;
  }

  heights : Heights w.job w.run w.stable w.status w.target (relog w.mem f l) w.held w.copy
  heights = record {
    normal = inv.heights.normal;
    catching_up = inv.heights.catching_up;
    down = inv.heights.down;
    above_stable = inv.heights.above_stable;
    copied = inv.heights.copied;
  }

  ordered : Ordered w.job w.run (relog w.mem f l)
  ordered = record {
    received = λ c k e i a b. let u = inv.ordered.received c k e i a b in let v = h.grown e.sender c in omega arith;
    worked = λ c s n k a b. let u = inv.ordered.worked c s n k a b in let v = h.grown s c in omega arith;
  }

  noted : Noted w.job w.run w.stable (relog w.mem f l) w.held w.copy w.notes
  noted = record { unnoted = inv.noted.unnoted; noted = inv.noted.noted }

  remembered : Remembered w.job w.run w.stable w.status (relog w.mem f l)
  remembered c k e i o a b d =
      elim (h.stays e.sender (key_sender inv.domain ((inv.tables c k).sent e i)) c e.sn e.tn (λ z. omega arith) (inv.remembered c k e i o a b d)) [
        | inl g ↦ g
        | inr g ↦ let v = g.0 in absurd (omega arith)
      ]

  later : Later w (put_mem w (relog w.mem f l))
  later = record {
    job = refl;
    sent = λ m k. k;
    stable = λ r s n k. k;
    tick = λ r s n t k. k;
    up = λ p k. k;
    counts = h.grown;
    backed = λ s r n k d b u. elim (b u) [
      | inl g ↦ elim (h.stays s (key_sender inv.domain k) r n g.tn g.some_tn g.found) [
        | inl y ↦ inl (record { tn = g.tn; some_tn = g.some_tn; found = y })
        | inr y ↦ inr (record { tn = g.tn; low = y.0; worked = y.1 })
      ]
      | inr g ↦ inr g
    ];
    acked = λ s r n k d b u. u;
  }

  copies : Copies w.job w.run w.stable (relog w.mem f l) w.held w.copy
  copies c k g =
      let m = inv.copies c k g in
      record {
        image = m.image;
        log = log_later later c (w.copy c).log (w.copy c).sn m.log;
        ordered = m.ordered;
        kept = λ y i d. elim (m.kept y i d) [ inl u ↦ h.stays c (inr k) _ _ _ d u | inr u ↦ inr u ];
        local = m.local;
        table = m.table;
      }

  pub relogged : InvP q (put_mem w (relog w.mem f l))
  relogged = record {
    job = inv.job;
    domain = inv.domain;
    machines = inv.machines;
    images = images;
    heights = heights;
    tables = inv.tables;
    ordered = ordered;
    remembered = remembered;
    noted = noted;
    logs = λ a k. log_later later a (l a) (f a) (h.logs a k);
    copies = copies;
    notes = inv.notes;
    wire = wire_later later w.wire inv.wire;
  }

-- ---- only logs change
-- the log l can take the place of a's
abbrev pub NewLog : World → ℕ → List Logged → Type 0
NewLog w a l = Log w.job w.run w.stable w.mem a l (w.mem a).sn × Stays w a l

module _ {p : Pending} {w : World} (inv : InvP p w) where
  pub new_logs : (l : ℕ → List Logged) → ((a : ℕ) → Sender w.job a → NewLog w a (l a))
      → (mem : ℕ → Memory) → ((a : ℕ) → Sender w.job a → mem a ≡ with_log (w.mem a) (l a)) → InvP p (put_mem w mem)
  new_logs l h mem e = inv_senders (relogged (λ c. (w.mem c).sn) l inv changed) mem e
    where
      changed : Relogged p p w (λ c. (w.mem c).sn) l
      changed = record {
        counts = λ c. refl;
        owed = inv.images.owed;
        owing = inv.images.owing;
        owed_to = inv.images.owed_to;
        grown = λ c r. le_refl _;
        logs = λ a k. (h a k).0;
        stays = λ a k. (h a k).1;
      }

  pub new_log : (a : ℕ) (l : List Logged) → NewLog w a l → InvP p (put_mem w (upd a (with_log (w.mem a) l) w.mem))
  new_log a l h =
      new_logs (upd a l (λ c. (w.mem c).log))
      (upd_ind (λ c l. Sender w.job c → NewLog w c l) a l _ (λ k. h) (λ c d k. (inv.logs c k, λ r n t d y. inl y)))
      (upd a (with_log (w.mem a) l) w.mem)
      (λ c k. upd_ind₂ (λ c m l. m ≡ with_log (w.mem c) l) a _ l w.mem (λ c. (w.mem c).log) refl (λ c d. refl) c)
