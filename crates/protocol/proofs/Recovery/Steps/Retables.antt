-- The tables of many chares are rewritten at once. `highest_at_restart`, which no clause reads, may change with them.
use Rattle.std.specs.Prelude.{◌≡◌, refl, ◌⊎◌, List, ℕ, ◌≤◌}
use Rattle.std.proofs.Common.{sym, subst, inl, inr, le_refl}
use Rattle.lists.specs.Map.{upd_same, upd_ind}
use Rattle.lists.specs.Lists.{◌∈◌}
use Rattle.protocol.specs.declared.Entry.{Entry}
use Rattle.protocol.specs.Setters.{with_table, with_highest_at_restart}
use Rattle.protocol.proofs.Recovery.Laws.Marks.{marked_same}
use Rattle.protocol.proofs.Recovery.Invariant.World.{World, Pending, put_mem, HasEntry, LoggedAs}
use Rattle.protocol.proofs.Recovery.Invariant.Clauses.{Chare, Images, Table, Ordered, Remembered, Noted, Copies, InvP}
use Rattle.protocol.proofs.Recovery.Invariant.Ticks.{tick_mem}
use Rattle.protocol.proofs.Recovery.Invariant.Later.{Later, wire_later, log_later, notes_later, still_acked}
use Rattle.protocol.proofs.Recovery.Steps.Retable.{put_table}
use Rattle.protocol.proofs.Recovery.Steps.Table.{Becomes, Rewritten, becomes_self, entered_new, table_rewrite}

-- chare c gets the table l c and the top of its restart
abbrev pub put_tables : World → (ℕ → List Entry) → (ℕ → ℕ) → World
put_tables w l top = put_mem w (λ c. with_highest_at_restart (with_table (w.mem c) (l c)) (top c))

module _ {p : Pending} {w : World} (inv : InvP p w) (l : ℕ → List Entry) (top : ℕ → ℕ)
    (each : (c : ℕ) → (l c ≡ (w.mem c).table) ⊎ (Chare w.job c × Rewritten w c (l c))) where
  -- ---- a table that stays is rewritten too
  rewritten : (c : ℕ) → Chare w.job c → Rewritten w c (l c)
  rewritten c chare = elim (each c) [
    | inl q ↦ subst (Rewritten w c) (sym q) (record {
      old = λ e i. (e, i, becomes_self w c e);
      new = λ f i. record { entry = f; member = i; of_sender = refl; of_sn = refl; of_tn = refl };
      tns = (inv.tables c chare).tns;
      keys = (inv.tables c chare).keys;
    })
    | inr h ↦ h.1
  ]

  before : (c : ℕ) (e : Entry) → e ∈ l c → (f : Entry) × (f ∈ (w.mem c).table) × Becomes w c f e
  before c e i = elim (each c) [ inl q ↦ (e, subst (e ∈◌) q i, becomes_self w c e) | inr h ↦ h.1.old e i ]

  entered : (c s n t : ℕ) → HasEntry (w.mem c).table s n t → HasEntry (l c) s n t
  entered c s n t i = elim (each c) [ inl q ↦ subst (λ k. HasEntry k s n t) (sym q) i | inr h ↦ entered_new h.1 i ]

  later : Later w (put_tables w l top)
  later = record {
    job = refl;
    sent = λ m i. i;
    stable = λ r s n i. i;
    tick = λ r s n t. tick_mem w.run w.mem (put_tables w l top).mem r (entered r);
    up = λ q u. u;
    counts = λ s r. le_refl _;
    backed = λ s r n k e b. b;
    acked = λ s r n k e c. still_acked w (put_tables w l top) (λ q u. u) (λ r. le_refl _) (λ r s n t u k. k)
        (λ r e i. let (f, j, b) = before r e i in (f, j, b.sender, b.sn, b.tn)) s r n;
  }

  -- ---- with the table of one chare alone rewritten, its clauses are those of the whole
  alone : (c : ℕ) → Chare w.job c → InvP p (put_table w c (l c))
  alone c chare = table_rewrite inv c chare (l c) (rewritten c chare)

  inside : {c : ℕ} {e : Entry} → e ∈ l c → e ∈ ((put_table w c (l c)).mem c).table
  inside {c} {e} i = subst (λ m. e ∈ m.table) (sym (upd_same c (with_table (w.mem c) (l c)) w.mem)) i

  same_counts : (c a : ℕ) → ((put_table w c (l c)).mem a).sn ≡ (w.mem a).sn
  same_counts c = upd_ind (λ a m. m.sn ≡ (w.mem a).sn) c (with_table (w.mem c) (l c)) w.mem refl (λ a _. refl)

  same_log : (c a : ℕ) → ((put_table w c (l c)).mem a).log ≡ (w.mem a).log
  same_log c = upd_ind (λ a m. m.log ≡ (w.mem a).log) c (with_table (w.mem c) (l c)) w.mem refl (λ a _. refl)

  images : Images w.job w.run p (put_tables w l top).mem
  images = record {
    image = λ c chare.
        let i = inv.images.image c chare in
        record { reached = i.reached; state = i.state; counts = i.counts; marks = marked_same ((put_tables w l top).mem c) refl refl i.marks };
    desk = inv.images.desk;
    owed = inv.images.owed;
    owing = inv.images.owing;
    owed_to = inv.images.owed_to;
  }

  ordered : Ordered w.job w.run (put_tables w l top).mem
  ordered = record {
    received = λ c chare e i a b. subst (λ f. e.sn ≤ f c) (same_counts c e.sender) ((alone c chare).ordered.received c chare e (inside i) a b);
    worked = inv.ordered.worked;
  }

  remembered : Remembered w.job w.run w.stable w.status (put_tables w l top).mem
  remembered c chare e i o a u d =
      subst (λ k. LoggedAs k c e.sn e.tn) (same_log c e.sender) ((alone c chare).remembered c chare e (inside i) o a u d)

  noted : Noted w.job w.run w.stable (put_tables w l top).mem w.held w.copy w.notes
  noted = record {
    unnoted = λ c chare e i. (alone c chare).noted.unnoted c chare e (inside i);
    noted = λ c chare u e i. (alone c chare).noted.noted c chare u e (inside i);
  }

  copies : Copies w.job w.run w.stable (put_tables w l top).mem w.held w.copy
  copies c chare u =
      let k = inv.copies c chare u in
      record {
        image = k.image;
        log = log_later later c (w.copy c).log (w.copy c).sn k.log;
        ordered = k.ordered;
        kept = k.kept;
        local = k.local;
        table = λ e i. let (a, t) = k.table e i in (a, later.tick _ _ _ _ t);
      }

  pub tables_rewrite : InvP p (put_tables w l top)
  tables_rewrite = record {
    job = inv.job;
    domain = inv.domain;
    machines = inv.machines;
    images = images;
    heights = record {
      normal = inv.heights.normal;
      catching_up = inv.heights.catching_up;
      down = inv.heights.down;
      above_stable = inv.heights.above_stable;
      copied = inv.heights.copied;
    };
    tables = λ c chare. subst (λ m. Table w.run c (w.stable c) m.table) (upd_same c (with_table (w.mem c) (l c)) w.mem) ((alone c chare).tables c chare);
    ordered = ordered;
    remembered = remembered;
    noted = noted;
    logs = λ a sender. log_later later a (w.mem a).log (w.mem a).sn (inv.logs a sender);
    copies = copies;
    notes = notes_later later w.notes inv.notes;
    wire = wire_later later w.wire inv.wire;
  }
