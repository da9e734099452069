-- A machine that catches up becomes normal: each of its chares has reached its target, and every message of its logs has a TN.
use Rattle.std.specs.Prelude.{◌≡◌, refl, ◌≢◌, ◌⊎◌, List, ℕ, ◌≤◌, ◌<◌, length}
use Rattle.std.proofs.Common.{sym, ap, ◌∙◌, subst, inl, inr, arith}
use Rattle.std.proofs.Math.Path.{subst₃}
use Rattle.lists.specs.Tests.{eq?}
use Rattle.lists.specs.Map.{upd, upd_same, upd_other, upd_ind}
use Rattle.lists.specs.Lists.{◌∈◌, All}
use Rattle.protocol.specs.declared.Logged.{Logged}
use Rattle.protocol.specs.declared.Entry.{Entry}
use Rattle.protocol.specs.declared.Status.{Status}
use Rattle.protocol.specs.declared.Status.TheVariants.{Up, Down, CatchingUp}
use Rattle.protocol.specs.Parts.{Job, Memory}
use Rattle.protocol.specs.CrashFree.{Run}
use Rattle.protocol.proofs.Recovery.Run.Facts.{RunOk}
use Rattle.protocol.proofs.Recovery.Invariant.World.{World, put_status, nothing_pending, Tick, Stable, SentKey, LoggedAs, HasTicket}
use Rattle.protocol.proofs.Recovery.Invariant.Clauses.{Chare, Log, InvP}
use Rattle.protocol.proofs.Recovery.Invariant.Ticks.{tick_entry, stable_no_entry}
use Rattle.protocol.proofs.Recovery.Invariant.Later.{Backed, Later, wire_later}
use Rattle.protocol.proofs.Recovery.Invariant.Counts.{image_now, full_counts, sent_logged}
use Rattle.protocol.proofs.Recovery.Laws.Status.{down_not_up, catching_up_not_up}

-- the ticket of a logged message, by its receiver and SN
pub logged_tick : {j : Job} {x : Run} {stable : ℕ → ℕ} {mem : ℕ → Memory} {a r n t : ℕ} {l : List Logged} {f : ℕ → ℕ}
    → Log j x stable mem a l f → LoggedAs l r n t → t ≢ 0 → Tick x mem r a n t
logged_tick {x = x} {mem = mem} {a = a} log y some_tn =
    subst₃ (λ r n t. Tick x mem r a n t) y.of_receiver y.of_sn y.of_tn
    (log.tick y.logged y.member (λ e. some_tn (sym y.of_tn ∙ e)))

module _ {w : World} (ok : RunOk w.job w.run) (inv : InvP nothing_pending w) (q : ℕ) (catching : w.status q ≡ CatchingUp)
    (done : (c : ℕ) → Chare w.job c → w.job.home c ≡ q → (w.target c ≤ (w.mem c).height) × All (λ y. y.tn ≢ 0) (w.mem c).log) where
  not_desk : q ≢ 0
  not_desk e = catching_up_not_up (sym catching ∙ ap w.status e ∙ inv.machines.desk)

  settles : (c : ℕ) → w.job.home c ≡ q → Chare w.job c
  settles c e d = not_desk (sym e ∙ d)

  reached_all : (c : ℕ) → Chare w.job c → w.job.home c ≡ q → (w.mem c).height ≡ length (w.run.worked c)
  reached_all c chare e =
      let a = inv.heights.catching_up c chare (ap w.status e ∙ catching) in
      let b = (image_now inv.images c chare).reached in
      let t = (done c chare e).0 in
      omega arith

  -- what the run has sent from a chare of the machine is ticketed in its log, or stable
  ticketed : {r n : ℕ} (s : ℕ) → w.job.home s ≡ q → SentKey w.run s r n → HasTicket (w.mem s).log r n ⊎ Stable w.run w.stable r s n
  ticketed {r} {n} s e k =
      let chare = settles s e in
      let log = inv.logs s (inr chare) in
      elim (sent_logged ok log (full_counts inv.images s chare inv.job ok (reached_all s chare e)) k) [
        | inl y ↦ inl (record {
          tn = y.logged.tn;
          some_tn = (done s chare e).1 y.logged y.member;
          found = record { logged = y.logged; member = y.member; of_receiver = y.of_receiver; of_sn = y.of_sn; of_tn = refl };
        })
        | inr p ↦ inr p
      ]

  settled_entry : (c : ℕ) → Chare w.job c → (e : Entry) → e ∈ (w.mem c).table → w.stable c < e.tn → w.job.home e.sender ≡ q
      → LoggedAs (w.mem e.sender).log c e.sn e.tn
  settled_entry c chare e i o h =
      let table = inv.tables c chare in
      elim (ticketed e.sender h (table.sent e i)) [
        | inl y ↦
            let t = logged_tick (inv.logs e.sender (inr (settles e.sender h))) y.found y.some_tn in
            subst (LoggedAs (w.mem e.sender).log c e.sn) (sym (tick_entry (ok.distinct c) table t e i refl refl)) y.found
        | inr p ↦ absurd (stable_no_entry (ok.distinct c) table p e i o refl refl)
      ]

  -- ---- the world after
  abbrev status' : ℕ → Status
  status' = upd q Up w.status

  other : (p : ℕ) → status' p ≢ Up → p ≢ q
  other p h e = h (ap status' e ∙ upd_same q Up w.status)

  old : (p : ℕ) → p ≢ q → w.status p ≡ status' p
  old p d = sym (upd_other q Up w.status p d)

  was : (p : ℕ) → status' p ≢ Up → w.status p ≡ status' p
  was p h = old p (other p h)

  backed : (target' : ℕ → ℕ) (s r n : ℕ) → SentKey w.run s r n → Backed w s r n → Backed (put_status w status' target') s r n
  backed target' s r n k b u = elim (eq? (w.job.home s) q) [
    | inl e ↦ ticketed s e k
    | inr d ↦ b (old (w.job.home s) d ∙ u)
  ]

  settled_later : (target' : ℕ → ℕ) → Later w (put_status w status' target')
  settled_later target' = record {
    job = refl;
    sent = λ m p. p;
    stable = λ r s n p. p;
    tick = λ r s n t p. p;
    up = upd_ind (λ p v. w.status p ≢ Down → v ≢ Down) q Up w.status (λ _ e. down_not_up (sym e)) (λ p _ h. h);
    counts = λ s r. omega arith;
    backed = λ s r n k _. backed target' s r n k;
    acked = λ s r n k _ _ a. a;
  }

  pub settle_step : (target' : ℕ → ℕ) → ((c : ℕ) → w.job.home c ≢ q → target' c ≡ w.target c)
      → InvP nothing_pending (put_status w (upd q Up w.status) target')
  settle_step target' same = record {
    job = inv.job;
    domain = inv.domain;
    machines = record {
      desk = upd_ind (λ p v. p ≡ 0 → v ≡ Up) q Up w.status (λ _. refl) (λ p _ e. ap w.status e ∙ inv.machines.desk) 0 refl;
      one = λ p r a b. inv.machines.one p r (subst (◌≢ Up) (sym (was p a)) a) (subst (◌≢ Up) (sym (was r b)) b);
      covered = λ p e. inv.machines.covered p (was p (λ u. down_not_up (sym e ∙ u)) ∙ e);
    };
    images = inv.images;
    heights = record {
      normal = λ c chare u. elim (eq? (w.job.home c) q) [
        | inl e ↦ reached_all c chare e
        | inr d ↦ inv.heights.normal c chare (old (w.job.home c) d ∙ u)
      ];
      catching_up = λ c chare u.
          let d = other (w.job.home c) (λ e. catching_up_not_up (sym u ∙ e)) in
          rw (same c d) (inv.heights.catching_up c chare (old (w.job.home c) d ∙ u));
      down = λ c chare u. inv.heights.down c chare (was (w.job.home c) (λ e. down_not_up (sym u ∙ e)) ∙ u);
      above_stable = inv.heights.above_stable;
      copied = inv.heights.copied;
    };
    tables = inv.tables;
    ordered = inv.ordered;
    remembered = λ c chare e i o l u. elim (eq? (w.job.home e.sender) q) [
      | inl h ↦ λ _. settled_entry c chare e i o h
      | inr d ↦ inv.remembered c chare e i o l (old (w.job.home e.sender) d ∙ u)
    ];
    noted = inv.noted;
    logs = inv.logs;
    copies = inv.copies;
    notes = inv.notes;
    wire = wire_later (settled_later target') w.wire inv.wire;
  }
