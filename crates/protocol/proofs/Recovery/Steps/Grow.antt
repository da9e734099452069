-- The run grows, and chares may have gone on in it: every clause that reads neither stays, and what is left to show is said once.
use Rattle.std.specs.Prelude.{◌≡◌, refl, true, ◌⊎◌, ℕ, ◌≤◌, length, take}
use Rattle.std.proofs.Common.{sym, subst, inl, inr, le_refl, arith}
use Rattle.std.proofs.Math.Path.{subst⁻¹}
use Rattle.lists.specs.Tests.{lt?, true_not_false}
use Rattle.lists.specs.Lists.{All}
use Rattle.protocol.specs.Parts.{Memory}
use Rattle.protocol.specs.Sending.{is_local}
use Rattle.protocol.specs.CrashFree.{Run}
use Rattle.protocol.proofs.Recovery.Laws.Marks.{In}
use Rattle.protocol.proofs.Recovery.Invariant.World.{World, put_run, put_mem, Pending, Tick}
use Rattle.protocol.proofs.Recovery.Invariant.Clauses.{Chare, Domain, Images, Heights, Table, Remembered, Noted, Copies, Notes, InvP}
use Rattle.protocol.proofs.Recovery.Laws.Places.{place_mono, take_within}
use Rattle.protocol.proofs.Recovery.Invariant.Ticks.{tick_run}
use Rattle.protocol.proofs.Recovery.Invariant.Later.{Later, wire_later}
use Rattle.protocol.proofs.Recovery.Run.Grown.{Grown, stable_grown, image_grown, log_grown}

-- counts, tables and logs are those of `mem`, the rest those of `new`
abbrev gone_on : (ℕ → Memory) → (ℕ → Memory) → ℕ → Memory
gone_on mem new c = record {
  state = (new c).state;
  height = (new c).height;
  sn = (mem c).sn;
  mark = (new c).mark;
  window = (new c).window;
  highest_at_restart = (new c).highest_at_restart;
  table = (mem c).table;
  log = (mem c).log;
}

-- What is to show of the new memories beside the new run. An entry that has a place in the longer run had one in the shorter, or is
-- received and noted.
pub record GoneOn (p : Pending) (w : World) (y : Run) (new : ℕ → Memory) : Type 0 where
  pub grown : Grown w.run y
  pub same_counts : (c : ℕ) → (new c).sn ≡ (w.mem c).sn
  pub same_table : (c : ℕ) → (new c).table ≡ (w.mem c).table
  pub same_log : (c : ℕ) → (new c).log ≡ (w.mem c).log
  pub domain : Domain w.job y
  pub images : Images w.job y p new
  pub heights : Heights w.job y w.stable w.status w.target new w.held w.copy
  pub tables : (c : ℕ) → Chare w.job c → Table y c (w.stable c) (w.mem c).table
  pub ordered : (c s n : ℕ) → Chare w.job c → is_local w.job s c ≡ true → In (take (new c).height (y.worked c)) s n → n ≤ (w.mem s).sn c
  pub placed : (c : ℕ) → Chare w.job c
      → All (λ e. e.tn ≤ length (y.worked c) → (e.tn ≤ length (w.run.worked c)) ⊎ ((e.received ≡ true) × (e.noted ≡ true))) (w.mem c).table

module _ {p q : Pending} {w : World} {y : Run} {new : ℕ → Memory} (inv : InvP p w) (h : GoneOn q w y new) where
  tick : (r s n t : ℕ) → Tick w.run w.mem r s n t → Tick y w.mem r s n t
  tick r s n t k = tick_run w.run y w.mem r h.grown.worked k

  remembered : Remembered w.job y w.stable w.status (gone_on w.mem new)
  remembered c k e i o a b (inl r) = inv.remembered c k e i o a b (inl r)
  remembered c k e i o a b (inr u) = elim (h.placed c k e i u) [ inl v ↦ inv.remembered c k e i o a b (inr v) | inr v ↦ inv.remembered c k e i o a b (inl v.0) ]

  noted : Noted w.job y w.stable (gone_on w.mem new) w.held w.copy w.notes
  noted = record {
    unnoted = λ c k e i u.
        let (a, b) = inv.noted.unnoted c k e i u in (
          a,
          elim (lt? (length (y.worked c)) e.tn) [
            | inl v ↦ v
            | inr v ↦ elim (h.placed c k e i v) [ inl z ↦ absurd (omega arith) | inr z ↦ true_not_false z.1 u ]
          ],
        );
    noted = inv.noted.noted;
  }

  copies : Copies w.job y w.stable (gone_on w.mem new) w.held w.copy
  copies c k u =
      let m = inv.copies c k u in
      let e : take (w.copy c).height (y.worked c) ≡ take (w.copy c).height (w.run.worked c) = take_within (h.grown.worked c) (w.copy c).height m.image.reached in
      record {
        image = image_grown h.grown m.image;
        log = log_grown h.grown tick m.log;
        ordered = λ s n a b. m.ordered s n a (rw e at b);
        kept = λ z i d. elim (m.kept z i d) [ inl v ↦ inl v | inr v ↦ inr (v.0, place_mono (h.grown.worked _) v.1) ];
        local = m.local;
        table = λ f i. let (a, t) = m.table f i in (a, tick c f.sender f.sn f.tn t);
      }

  notes : Notes w.job y (gone_on w.mem new) w.notes
  notes o z i = let (a, b, d, t) = inv.notes o z i in (a, b, d, tick z.receiver z.sender z.sn z.tn t)

  later : Later w (put_mem (put_run w y) (gone_on w.mem new))
  later = record {
    job = refl;
    sent = h.grown.sent;
    stable = λ r s n k. stable_grown h.grown k;
    tick = tick;
    up = λ o k. k;
    counts = λ s r. le_refl _;
    backed = λ s r n k d b u. elim (b u) [ inl z ↦ inl z | inr z ↦ inr (stable_grown h.grown z) ];
    acked = λ s r n k d b u. u;
  }

  same : gone_on w.mem new ≡ new
  same i c = record {
    state = (new c).state;
    height = (new c).height;
    sn = sym (h.same_counts c) i;
    mark = (new c).mark;
    window = (new c).window;
    highest_at_restart = (new c).highest_at_restart;
    table = sym (h.same_table c) i;
    log = sym (h.same_log c) i;
  }

  pub run_grows : InvP q (put_mem (put_run w y) new)
  run_grows = subst (λ m. InvP q (put_mem (put_run w y) m)) same (record {
    job = inv.job;
    domain = h.domain;
    machines = inv.machines;
    images = subst⁻¹ (Images w.job y q) same h.images;
    heights = subst⁻¹ (λ m. Heights w.job y w.stable w.status w.target m w.held w.copy) same h.heights;
    tables = h.tables;
    ordered = record { received = inv.ordered.received; worked = h.ordered };
    remembered = remembered;
    noted = noted;
    logs = λ a k. log_grown h.grown tick (inv.logs a k);
    copies = copies;
    notes = notes;
    wire = wire_later later w.wire inv.wire;
  })
