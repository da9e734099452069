-- The first parts of a checkpoint of machine q: its tables lose what was worked, its copy is fixed anew, and its notes go.
use Rattle.std.specs.Prelude.{◌≡◌, Bool, true, ◌≢◌, List, [], ℕ, ◌≤◌, ◌<◌, take}
use Rattle.std.proofs.Math.Path.{refl, sym, ap, subst, fun_ext}
use Rattle.std.proofs.Common.{◌∙◌, arith}
use Rattle.std.proofs.Math.Logic.{inl, inr}
use mathlib.Core.List.Memᴰ
use Rattle.lists.specs.Tests.{eq?, lt?, true_not_false}
use Rattle.lists.specs.Map.{upd, upd_same, upd_other, upd_ind}
use Rattle.lists.specs.Lists.{◌∈◌, All}
use Rattle.protocol.specs.declared.Entry.{Entry}
use Rattle.protocol.specs.declared.Note.{Note}
use Rattle.protocol.specs.declared.Status.TheVariants.{Down}
use Rattle.protocol.specs.Parts.{Job, Memory, at_home}
use Rattle.protocol.specs.Setters.{with_table}
use Rattle.protocol.specs.Tickets.{mark_noted}
use Rattle.protocol.specs.Checkpoint.{pruned}
use Rattle.protocol.specs.CrashFree.{Run}
use Rattle.protocol.proofs.Recovery.Laws.Marks.{In, marked_same}
use Rattle.protocol.proofs.Recovery.Invariant.World.{World, put_mem, put_copies, nothing_pending, HasEntry, Tick, Stable, NotedAs, Kept}
use Rattle.protocol.proofs.Recovery.Invariant.Clauses.{Chare, Image, Images, Heights, Tables, Ordered, Remembered, Noted, Log, Logs, Copy, Copies, Notes, InvP}
use Rattle.protocol.proofs.Recovery.Invariant.Ticks.{tick_place, tick_entered}
use Rattle.protocol.proofs.Recovery.Invariant.Later.{Later, wire_later, log_later, notes_later, still_backed}
use Rattle.protocol.proofs.Recovery.Laws.AtHome.{at_home_on, at_home_off, at_home_ind}
use Rattle.protocol.proofs.Recovery.Invariant.Counts.{image_now}
use Rattle.protocol.proofs.Recovery.Laws.Pruned.{pruned_table, all_pruned, entered_pruned, table_pruned}
use Rattle.protocol.proofs.Recovery.Invariant.Homes.{local_home}

-- a copy reads the copies of its own machine
pub copy_same : {j : Job} {x : Run} {stable : ℕ → ℕ} {mem : ℕ → Memory} {c : ℕ} (copy copy' : ℕ → Memory) → ((b : ℕ) → j.home b ≡ j.home c → copy b ≡ copy' b)
    → Copy j x stable mem copy c → Copy j x stable mem copy' c
copy_same {j} {x} {stable} {mem} {c} copy copy' same k =
    let e = same c refl in
    record {
      image = subst (λ m. Image j x c m m.sn) e k.image;
      log = subst (λ m. Log j x stable mem c m.log m.sn) e k.log;
      ordered = λ s n l i. subst (λ m. n ≤ m.sn c) (same s (local_home j s c l)) (k.ordered s n l (subst (λ m. In (take m.height (x.worked c)) s n) (sym e) i));
      kept = λ y i. k.kept y (subst (λ m. y ∈ m.log) (sym e) i);
      local = λ y i l. subst (λ m. m.height < y.tn → HasEntry m.table c y.message.sn y.tn) (same _ (sym (local_home j c _ l))) (k.local y (subst (λ m. y ∈ m.log) (sym e) i) l);
      table = λ y i.
          let (a, t) = k.table y (subst (λ m. y ∈ m.table) (sym e) i) in
          (subst (λ m. m.height < y.tn) e a, t);
    }

module _ {w : World} (inv : InvP nothing_pending w) (q : ℕ) (not_desk : q ≢ 0) where
  abbrev home : ℕ → ℕ
  home = w.job.home

  -- whoever is on machine q is a chare
  here_chare : (c : ℕ) → home c ≡ q → Chare w.job c
  here_chare c e d = not_desk (sym e ∙ d)

  -- ---- the parts after the step, with the memories given by their tables
  table' : ℕ → List Entry
  table' = at_home w.job q (λ c. pruned_table (w.mem c).height) (λ c. (w.mem c).table)

  abbrev mem' : ℕ → Memory
  mem' c = with_table (w.mem c) (table' c)

  abbrev stable' : ℕ → ℕ
  stable' = at_home w.job q (λ c h. (w.mem c).height) w.stable

  abbrev held' : ℕ → Bool
  held' = upd q true w.held

  abbrev copied : (ℕ → Memory) → ℕ → Memory
  copied m = at_home w.job q (λ c _. m c) w.copy

  abbrev notes' : ℕ → List Note
  notes' = upd q [] w.notes

  abbrev after : (ℕ → Memory) → World
  after m = put_copies (put_mem w m) stable' held' (copied m) notes'

  abbrev copy' : ℕ → Memory
  copy' = copied mem'

  table_on : (c : ℕ) → home c ≡ q → table' c ≡ pruned_table (w.mem c).height (w.mem c).table
  unfolding table'
  table_on = at_home_on w.job q (λ c. pruned_table (w.mem c).height) (λ c. (w.mem c).table)

  table_off : (c : ℕ) → home c ≢ q → table' c ≡ (w.mem c).table
  unfolding table'
  table_off = at_home_off w.job q (λ c. pruned_table (w.mem c).height) (λ c. (w.mem c).table)

  stable_on : (c : ℕ) → home c ≡ q → stable' c ≡ (w.mem c).height
  stable_on = at_home_on w.job q (λ c h. (w.mem c).height) w.stable

  stable_off : (c : ℕ) → home c ≢ q → stable' c ≡ w.stable c
  stable_off = at_home_off w.job q (λ c h. (w.mem c).height) w.stable

  copy_on : (c : ℕ) → home c ≡ q → copy' c ≡ mem' c
  copy_on = at_home_on w.job q (λ c _. mem' c) w.copy

  copy_off : (c : ℕ) → home c ≢ q → copy' c ≡ w.copy c
  copy_off = at_home_off w.job q (λ c _. mem' c) w.copy

  held_off : (c : ℕ) → home c ≢ q → held' (home c) ≡ true → w.held (home c) ≡ true
  held_off c d e = sym (upd_other q true w.held (home c) d) ∙ e

  -- ---- what stays, and what is new
  all_table : (c : ℕ) (P : Entry → Type 0) → All P (w.mem c).table → All (λ e. P (mark_noted e)) (w.mem c).table → All P (table' c)
  all_table c P old new = elim (eq? (home c) q) [
    | inl e ↦ subst (All P) (sym (table_on c e)) (all_pruned P (w.mem c).height (w.mem c).table (λ f i _. new f i))
    | inr d ↦ subst (All P) (sym (table_off c d)) old
  ]

  grows : (c : ℕ) → w.stable c ≤ stable' c
  grows = at_home_ind (λ c h. w.stable c ≤ h) w.job q (λ c h. (w.mem c).height) w.stable
      (λ c e. inv.heights.above_stable c (here_chare c e))
      (λ c _. omega arith)

  was_above : (c : ℕ) {t : ℕ} → stable' c < t → w.stable c < t
  was_above c o = let g = grows c in omega arith

  low_later : (r s n : ℕ) → Stable w.run w.stable r s n → Stable w.run stable' r s n
  low_later r s n p = let a = p.low in let b = grows r in record { tn = p.tn; low = omega arith; worked = p.worked }

  -- a ticket whose entry goes was worked
  tick_later : (r s n t : ℕ) → Tick w.run w.mem r s n t → Tick w.run mem' r s n t
  tick_later r s n t (inl p) = inl p
  tick_later r s n t (inr p) = elim (eq? (home r) q) [
    | inl e ↦ elim (lt? (w.mem r).height t) [
      | inl a ↦ inr (subst (λ l. HasEntry l s n t) (sym (table_on r e)) (entered_pruned (w.mem r).height p a))
      | inr a ↦
          let reached = (image_now inv.images r (here_chare r e)).reached in
          inl (tick_place (inv.tables r (here_chare r e)) (omega arith) (inr p))
    ]
    | inr d ↦ inr (subst (λ l. HasEntry l s n t) (sym (table_off r d)) p)
  ]

  kept_off : (r s n t : ℕ) → home r ≢ q → Kept w.job w.copy w.notes r s n t → Kept w.job copy' notes' r s n t
  kept_off r s n t d (inl p) = inl (subst (λ l. NotedAs l s r n t) (sym (upd_other q [] w.notes (home r) d)) p)
  kept_off r s n t d (inr p) = inr (subst (λ m. HasEntry m.table s n t) (sym (copy_off r d)) p)

  -- every entry left on the machine is in the copy
  kept_on : {s n : ℕ} (r : ℕ) → home r ≡ q → (e : Entry) → e ∈ table' r → e.sender ≡ s → e.sn ≡ n → Kept w.job copy' notes' r s n e.tn
  kept_on r h e i a b = inr (record { entry = e; member = subst (λ m. e ∈ m.table) (sym (copy_on r h)) i; of_sender = a; of_sn = b; of_tn = refl })

  later : Later w (after mem')
  later = record {
    job = refl;
    sent = λ m p. p;
    stable = low_later;
    tick = tick_later;
    up = λ p h. h;
    counts = λ s r. omega arith;
    backed = λ s r n _ _. still_backed w (after mem') (λ p e. e) (λ s r n t. inl t) low_later s r n;
    acked = λ s r n _ _ _ old u e i o a b. elim (eq? (home r) q) [
      | inl h ↦ kept_on r h e i a b
      | inr d ↦ kept_off r s n e.tn d (old (held_off r d u) e (subst (e ∈◌) (table_off r d) i) (was_above r o) a b)
    ];
  }

  -- ---- the clauses
  images : Images w.job w.run nothing_pending mem'
  images = record {
    image = λ c chare.
        let i = inv.images.image c chare in
        record { reached = i.reached; state = i.state; counts = i.counts; marks = marked_same (mem' c) refl refl i.marks };
    desk = inv.images.desk;
    owed = inv.images.owed;
    owing = inv.images.owing;
    owed_to = inv.images.owed_to;
  }

  heights : w.status q ≢ Down → Heights w.job w.run stable' w.status w.target mem' held' copy'
  heights up = record {
    normal = inv.heights.normal;
    catching_up = inv.heights.catching_up;
    down = λ c chare u. inv.heights.down c chare u ∙ sym (stable_off c (λ e. up (ap w.status (sym e) ∙ u)));
    above_stable = at_home_ind (λ c h. Chare w.job c → h ≤ (w.mem c).height) w.job q (λ c h. (w.mem c).height) w.stable
        (λ c _ _. omega arith)
        (λ c _ chare. inv.heights.above_stable c chare);
    copied = λ c chare u. elim (eq? (home c) q) [
      | inl e ↦ ap (λ m. m.height) (copy_on c e) ∙ sym (stable_on c e)
      | inr d ↦ ap (λ m. m.height) (copy_off c d) ∙ inv.heights.copied c chare (held_off c d u) ∙ sym (stable_off c d)
    ];
  }

  tables : Tables w.job w.run stable' mem'
  tables c chare = elim (eq? (home c) q) [
    | inl e ↦ rw (table_on c e, stable_on c e) (table_pruned (inv.tables c chare) (inv.heights.above_stable c chare))
    | inr d ↦ rw (table_off c d, stable_off c d) (inv.tables c chare)
  ]

  ordered : Ordered w.job w.run mem'
  unfolding mark_noted
  ordered = record {
    received = λ c chare. all_table c _ (inv.ordered.received c chare) (inv.ordered.received c chare);
    worked = inv.ordered.worked;
  }

  remembered : Remembered w.job w.run stable' w.status mem'
  unfolding mark_noted
  remembered c chare = all_table c _ (λ e i o. inv.remembered c chare e i (was_above c o)) (λ e i o. inv.remembered c chare e i (was_above c o))

  noted : Noted w.job w.run stable' mem' held' copy' notes'
  unfolding mark_noted
  noted = record {
    unnoted = λ c chare. all_table c _ (inv.noted.unnoted c chare) (λ e i u. true_not_false refl u);
    noted = λ c chare u e i o l k. elim (eq? (home c) q) [
      | inl h ↦ kept_on c h e i refl refl
      | inr d ↦ kept_off c e.sender e.sn e.tn d (inv.noted.noted c chare (held_off c d u) e (subst (e ∈◌) (table_off c d) i) (was_above c o) l k)
    ];
  }

  notes : Notes w.job w.run mem' notes'
  notes p n i = elim (eq? p q) [
    | inl e ↦ absurd (Memᴰ.not-nil (subst (n ∈◌) (ap notes' e ∙ upd_same q [] w.notes) i))
    | inr d ↦ notes_later later w.notes inv.notes p n (subst (n ∈◌) (upd_other q [] w.notes p d) i)
  ]

  logs : Logs w.job w.run stable' mem'
  logs a sender = log_later later a (w.mem a).log (w.mem a).sn (inv.logs a sender)

  -- a chare of the machine: its copy is its memory
  copy_here : (c : ℕ) → home c ≡ q → Copy w.job w.run stable' mem' mem' c
  unfolding mark_noted
  copy_here c h =
      let chare = here_chare c h in
      record {
        image = image_now images c chare;
        log = logs c (inr chare);
        ordered = λ s n. inv.ordered.worked c s n chare;
        kept = λ y i d. inl (record { logged = y; member = i; of_receiver = refl; of_sn = refl; of_tn = refl });
        local = λ y i l k.
            let r = y.message.receiver in
            let h' = sym (local_home w.job c r l) ∙ h in
            let a = inv.heights.above_stable r (here_chare r h') in
            let t = (inv.logs c (inr chare)).tick y i (λ e. omega arith) in
            let p = tick_entered (inv.tables r (here_chare r h')) (omega arith) t in
            subst (λ l. HasEntry l c y.message.sn y.tn) (sym (table_on r h')) (entered_pruned (w.mem r).height p k);
        table = λ e i.
            let a = all_pruned (λ e. (w.mem c).height < e.tn) (w.mem c).height (w.mem c).table (λ f _ k. k) e (subst (e ∈◌) (table_on c h) i) in
            (a, inr (record { entry = e; member = i; of_sender = refl; of_sn = refl; of_tn = refl }));
      }

  -- a chare of another machine: its copy stays
  copy_there : (c : ℕ) → Copy w.job w.run w.stable w.mem w.copy c → Copy w.job w.run stable' mem' w.copy c
  copy_there c k = record {
    image = k.image;
    log = log_later later c (w.copy c).log (w.copy c).sn k.log;
    ordered = k.ordered;
    kept = λ y i d. elim (k.kept y i d) [
      | inl p ↦ inl p
      | inr (a, p) ↦ let b = grows y.message.receiver in inr (omega arith, p)
    ];
    local = k.local;
    table = λ e i. let (a, t) = k.table e i in (a, tick_later c e.sender e.sn e.tn t);
  }

  copies : Copies w.job w.run stable' mem' held' copy'
  copies c chare u = elim (eq? (home c) q) [
    | inl e ↦ copy_same mem' copy' (λ b d. sym (copy_on b (d ∙ e))) (copy_here c e)
    | inr d ↦ copy_same w.copy copy' (λ b e. sym (copy_off b (λ f. d (sym e ∙ f)))) (copy_there c (inv.copies c chare (held_off c d u)))
  ]

  fixed : w.status q ≢ Down → InvP nothing_pending (after mem')
  fixed up = record {
    job = inv.job;
    domain = inv.domain;
    machines = record {
      desk = inv.machines.desk;
      one = inv.machines.one;
      covered = upd_ind (λ p v. w.status p ≡ Down → v ≡ true) q true w.held (λ _. refl) (λ p _. inv.machines.covered p);
    };
    images = images;
    heights = heights up;
    tables = tables;
    ordered = ordered;
    remembered = remembered;
    noted = noted;
    logs = logs;
    copies = copies;
    notes = notes;
    wire = wire_later later w.wire inv.wire;
  }

  -- pruning the memories of the machine changes only their tables
  pruned_mem : at_home w.job q (λ c m. pruned m) w.mem ≡ mem'
  unfolding pruned pruned_table
  pruned_mem = fun_ext (λ c. elim (eq? (home c) q) [
    | inl e ↦ at_home_on w.job q (λ c m. pruned m) w.mem c e ∙ ap (with_table (w.mem c)) (sym (table_on c e))
    | inr d ↦ at_home_off w.job q (λ c m. pruned m) w.mem c d ∙ ap (with_table (w.mem c)) (sym (table_off c d))
  ])

  pub checkpoint_fix : w.status q ≢ Down →
      let mem' = at_home w.job q (λ c m. pruned m) w.mem in
      InvP nothing_pending (put_copies (put_mem w mem')
      (at_home w.job q (λ c h. (w.mem c).height) w.stable)
      (upd q true w.held)
      (at_home w.job q (λ c m. mem' c) w.copy)
      (upd q [] w.notes))
  checkpoint_fix up = subst (λ m. InvP nothing_pending (after m)) (sym pruned_mem) (fixed up)
