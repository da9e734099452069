-- A chare works the entry of the TN after its height: the run has that work already, or grows by it, and the chare owes what it sends.
use Rattle.std.specs.Prelude.{◌≡◌, ◌⊎◌, ◌≢◌, List, [], ◌∷◌, ◌++◌, take}
use Rattle.std.proofs.Math.Path.{refl, sym, ap, subst⁻¹, subst₂}
use Rattle.std.proofs.Common.{◌∙◌, subst}
use Rattle.std.proofs.Math.Bool.{true}
use Rattle.std.proofs.Math.Logic.{inl, inr}
use Rattle.std.proofs.Math.Option.{some}
use Prim.Native.Nat.{ℕ, ◌+◌, ◌-◌, ◌≤◌, ◌<◌, max}
use native.Mathlib.Omega.{arith}
use Rattle.std.proofs.Math.ListN.{length}
use Rattle.lists.specs.Tests.{lt?, eq?}
use Rattle.lists.specs.Map.{upd, upd_same, upd_other, upd_ind}
use Rattle.lists.specs.Lists.{◌∈◌, All, Prefix}
use Rattle.protocol.specs.declared.Entry.{Entry}
use Rattle.protocol.specs.declared.Status.TheVariants.{Up, Down, CatchingUp}
use Rattle.protocol.specs.Parts.{Memory}
use Rattle.protocol.specs.Work.{work, receivers, sent_value, ports}
use Rattle.protocol.specs.Sending.{is_local}
use Rattle.protocol.specs.Working.{work_entry}
use Rattle.protocol.specs.CrashFree.{Injection, Work, Run, crash_free}
use Rattle.protocol.specs.History.{message_of}
use Rattle.protocol.proofs.Recovery.Run.Fold.{folded_mailed}
use Rattle.protocol.proofs.Recovery.Run.Facts.{Sent, RunOk, sent_unworked}
use Rattle.protocol.proofs.Recovery.Run.Laws.{ForChares, run_ok, work_more}
use Rattle.protocol.proofs.Recovery.Laws.Marks.{In, Reach, in_snoc}
use Rattle.protocol.proofs.Recovery.Invariant.World.{World, put_run, put_mem, Pending, nothing_pending, counted, Owed, Place}
use Rattle.protocol.proofs.Recovery.Invariant.Clauses.{Chare, Domain, Image, Images, Heights, Table, InvP}
use Rattle.protocol.proofs.Recovery.Invariant.Counts.{desk_now, chare_not_desk, image_now}
use Rattle.protocol.proofs.Recovery.Invariant.Owing.{counted_sender, counted_other, folded_to}
use Rattle.protocol.proofs.Recovery.Run.Grown.{image_grown, table_grown}
use Rattle.protocol.proofs.Recovery.Steps.Grow.{run_grows}
use Rattle.protocol.proofs.Recovery.Steps.WorkRun.{Works, work_of, replays, works_new}
use Rattle.protocol.proofs.Recovery.Steps.WorkTable.{new_message, placed_works, table_works}
use Rattle.protocol.proofs.Recovery.Steps.WorkImage.{image_works, owed_works}

-- what chare c owes once it has worked e
abbrev pub worked_owes : World → ℕ → Entry → Pending
worked_owes w c e = record { sender = c; receivers = receivers (ports w.job) c e.hops; value = sent_value (work (w.mem c).state e.value); hops = e.hops - 1 }

abbrev pub worked_mem : World → ℕ → Entry → ℕ → Memory
worked_mem w c e = upd c (work_entry (w.mem c) e) w.mem

-- the entry that chare c can work
record Next (w : World) (c : ℕ) (e : Entry) : Type 0 where
  chare : Chare w.job c
  up : w.status (w.job.home c) ≢ Down
  member : e ∈ (w.mem c).table
  next : e.tn ≡ (w.mem c).height + 1
  received : e.received ≡ true
  noted : e.noted ≡ true

module _ {w : World} {y : Run} (inv : InvP nothing_pending w) (c : ℕ) (e : Entry) (n : Next w c e) (g : Works w.job w.run y c (w.mem c).height (message_of c e)) where
  domain : Domain w.job y
  domain = record {
    receiver = λ m h. elim (g.new m h) [ inl k ↦ inv.domain.receiver m k | inr k ↦ folded_to (Chare w.job) w.job c (inv.job.ports c) (y.worked c) m k ];
    sender = λ m h. elim (g.new m h) [ inl k ↦ inv.domain.sender m k | inr k ↦ inr (subst⁻¹ (Chare w.job) (folded_mailed w.job c (y.worked c) m k).from n.chare) ];
  }

  image : Image w.job w.run c (w.mem c) (w.mem c).sn
  image = image_now inv.images c n.chare

  table : Table w.run c (w.stable c) (w.mem c).table
  table = inv.tables c n.chare

  first : 1 ≤ e.sn
  unfolding message_of
  first = (g.ok.bounds (message_of c e) (g.grown.sent _ (table.body e n.member n.received))).0

  reach : Reach (take (w.mem c).height (w.run.worked c)) e.sender e.sn
  reach = let q : e.tn - 1 ≡ (w.mem c).height = (let z = n.next in omega arith) in subst (λ k. Reach (take k (w.run.worked c)) e.sender e.sn) q (table.reach e n.member)

  desk : 0 ≢ c
  desk q = chare_not_desk inv.job c n.chare (sym q)

  image_after : Image w.job y c (work_entry (w.mem c) e) (counted (worked_owes w c e) c (work_entry (w.mem c) e).sn)
  unfolding work_entry
  image_after = subst⁻¹ (Image w.job y c (work_entry (w.mem c) e)) (counted_sender (worked_owes w c e) (w.mem c).sn)
      (image_works image e g first (new_message table image.reached n.member n.next g) reach)

  owed_after : Owed y c (receivers (ports w.job) c e.hops) (sent_value (work (w.mem c).state e.value)) (e.hops - 1) (work_entry (w.mem c) e).sn
  unfolding work_entry
  owed_after = owed_works image e g (chare_not_desk inv.job c n.chare)

  images : Images w.job y (worked_owes w c e) (worked_mem w c e)
  images = record {
    image = upd_ind (λ a m. Chare w.job a → Image w.job y a m (counted (worked_owes w c e) a m.sn)) c (work_entry (w.mem c) e) w.mem
        (λ k. image_after)
        (λ a d k. image_grown g.grown (subst⁻¹ (Image w.job w.run a (w.mem a)) (counted_other (worked_owes w c e) a (w.mem a).sn d) (image_now inv.images a k)));
    desk = subst⁻¹ (λ (m : Memory). counted (worked_owes w c e) 0 m.sn ≡ y.sn 0) (upd_other c _ w.mem 0 desk)
        (counted_other (worked_owes w c e) 0 (w.mem 0).sn desk ∙ desk_now inv.images ∙ sym g.desk);
    owed = subst⁻¹ (λ (m : Memory). Owed y c (receivers (ports w.job) c e.hops) (sent_value (work (w.mem c).state e.value)) (e.hops - 1) m.sn) (upd_same c _ w.mem) owed_after;
    owing = inr n.chare;
    owed_to = inv.job.ports c e.hops;
  }

  heights : Heights w.job y w.stable w.status w.target (worked_mem w c e) w.held w.copy
  unfolding work_entry
  heights = record {
    normal = upd_ind (λ a m. Chare w.job a → w.status (w.job.home a) ≡ Up → m.height ≡ length (y.worked a)) c (work_entry (w.mem c) e) w.mem
        (λ k u. let z = inv.heights.normal c k u in let r = g.reached in elim (g.bound (length (y.worked c)) (omega arith)) [ inl v ↦ absurd (omega arith) | inr v ↦ sym v ])
        (λ a d k u. inv.heights.normal a k u ∙ sym (ap length (g.others a d)));
    catching_up = upd_ind (λ a m. Chare w.job a → w.status (w.job.home a) ≡ CatchingUp → length (y.worked a) ≤ max (w.target a) m.height) c (work_entry (w.mem c) e) w.mem
        (λ k u. let z = inv.heights.catching_up c k u in elim (g.bound (length (y.worked c)) (omega arith)) [ inl v ↦ omega arith | inr v ↦ omega arith ])
        (λ a d k u. rw (g.others a d) (inv.heights.catching_up a k u));
    down = upd_ind (λ a m. Chare w.job a → w.status (w.job.home a) ≡ Down → m.height ≡ w.stable a) c (work_entry (w.mem c) e) w.mem
        (λ k u. absurd (n.up u)) (λ a d. inv.heights.down a);
    above_stable = upd_ind (λ a m. Chare w.job a → w.stable a ≤ m.height) c (work_entry (w.mem c) e) w.mem
        (λ k. let z = inv.heights.above_stable c k in omega arith) (λ a d. inv.heights.above_stable a);
    copied = inv.heights.copied;
  }

  ordered : (a s k : ℕ) → Chare w.job a → is_local w.job s a ≡ true → In (take (worked_mem w c e a).height (y.worked a)) s k → k ≤ (w.mem s).sn a
  unfolding work_entry message_of
  ordered a s k = upd_ind (λ a m. Chare w.job a → is_local w.job s a ≡ true → In (take m.height (y.worked a)) s k → k ≤ (w.mem s).sn a) c (work_entry (w.mem c) e) w.mem
      (λ h l i. elim (in_snoc (take (w.mem c).height (w.run.worked c)) (message_of c e) (subst (λ l. In l s k) g.longer i)) [
        | inl u ↦ inv.ordered.worked c s k h l u
        | inr (p, q) ↦ subst₂ (λ s k. k ≤ (w.mem s).sn c) p q (inv.ordered.received c h e n.member (subst⁻¹ (λ s. is_local w.job s c ≡ true) p l) n.received)
      ])
      (λ a d h l i. inv.ordered.worked a s k h l (subst (λ l. In (take (w.mem a).height l) s k) (g.others a d) i)) a

  placed : (a : ℕ) → Chare w.job a
      → All (λ f. f.tn ≤ length (y.worked a) → (f.tn ≤ length (w.run.worked a)) ⊎ ((f.received ≡ true) × (f.noted ≡ true))) (w.mem a).table
  placed a k = elim (eq? a c) [
    | inl q ↦ subst⁻¹ (λ a. All (λ f. f.tn ≤ length (y.worked a) → (f.tn ≤ length (w.run.worked a)) ⊎ ((f.received ≡ true) × (f.noted ≡ true))) (w.mem a).table) q here_placed
    | inr q ↦ λ f i h. inl (rw (g.others a q) at h)
  ]
    where
      here_placed : All (λ f. f.tn ≤ length (y.worked c) → (f.tn ≤ length (w.run.worked c)) ⊎ ((f.received ≡ true) × (f.noted ≡ true))) (w.mem c).table
      here_placed f i h = elim (placed_works table image.reached n.member n.next g f i h) [
        | inl u ↦ inl u
        | inr u ↦ inr (ap (λ (f : Entry). f.received) u ∙ n.received, ap (λ (f : Entry). f.noted) u ∙ n.noted)
      ]

  tables : (a : ℕ) → Chare w.job a → Table y a (w.stable a) (w.mem a).table
  tables a k = elim (eq? a c) [
    | inl q ↦ subst⁻¹ (λ a. Table y a (w.stable a) (w.mem a).table) q (table_works table image.reached n.member n.next g)
    | inr q ↦ table_grown g.grown (g.others a q) (inv.tables a k)
  ]

  works_on : InvP (worked_owes w c e) (put_mem (put_run w y) (worked_mem w c e))
  unfolding work_entry
  works_on = run_grows inv (record {
    grown = g.grown;
    same_counts = upd_ind (λ a m. m.sn ≡ (w.mem a).sn) c (work_entry (w.mem c) e) w.mem refl (λ a d. refl);
    same_table = upd_ind (λ a m. m.table ≡ (w.mem a).table) c (work_entry (w.mem c) e) w.mem refl (λ a d. refl);
    same_log = upd_ind (λ a m. m.log ≡ (w.mem a).log) c (work_entry (w.mem c) e) w.mem refl (λ a d. refl);
    domain = domain;
    images = images;
    heights = heights;
    tables = tables;
    ordered = ordered;
    placed = placed;
  })

-- what a work leaves: a run that goes on, in which the chare's first messages are one more
pub record WorkStep (is : List Injection) (w : World) (c : ℕ) (e : Entry) : Type 0 where
  pub works : List Work
  pub run : Run
  pub is_run : crash_free (ports w.job) is works ≡ some run
  pub grows : (a : ℕ) → Prefix (w.run.worked a) (run.worked a)
  pub others : (a : ℕ) → a ≢ c → run.worked a ≡ w.run.worked a
  pub longer : take ((w.mem c).height + 1) (run.worked c) ≡ take (w.mem c).height (w.run.worked c) ++ (message_of c e ∷ [])
  pub inv : InvP (worked_owes w c e) (put_mem (put_run w run) (worked_mem w c e))

module _ {w : World} (is : List Injection) (ws : List Work) (for-chares : ForChares is) (is_run : crash_free (ports w.job) is ws ≡ some w.run) (inv : InvP nothing_pending w) where
  ok : RunOk w.job w.run
  ok = run_ok w.job is ws w.run for-chares is_run

  module _ (c : ℕ) (e : Entry) (n : Next w c e) where
    with_run : (works : List Work) (y : Run) → crash_free (ports w.job) is works ≡ some y → Works w.job w.run y c (w.mem c).height (message_of c e) → WorkStep is w c e
    with_run works y r g = record {
      works = works;
      run = y;
      is_run = r;
      grows = g.grown.worked;
      others = g.others;
      longer = g.longer;
      inv = works_on inv c e n g;
    }

    sent : Sent w.run (message_of c e)
    sent = (inv.tables c n.chare).body e n.member n.received

    -- the run has it
    replay : e.tn ≤ length (w.run.worked c) → WorkStep is w c e
    unfolding message_of
    replay h = with_run ws w.run is_run
        (replays w.job ok c (w.mem c).height (message_of c e)
        (subst (λ t. Place (w.run.worked c) t e.sender e.sn) n.next ((inv.tables c n.chare).past e n.member h)) refl sent)

    -- sent, and not worked in the run
    unworked : length (w.run.worked c) < e.tn → w.run.unworked (message_of c e).sender c (message_of c e).sn ≡ some (message_of c e)
    unfolding message_of
    unworked h = sent_unworked ok (message_of c e) sent (λ z i q.
        (inv.tables c n.chare).fresh e n.member h (record { message = z; member = i; of_sender = ap (λ k. k.0) q; of_sn = ap (λ k. k.1) q }))

    fresh : length (w.run.worked c) < e.tn → WorkStep is w c e
    fresh h =
        let full : (w.mem c).height ≡ length (w.run.worked c) = (let r = (image_now inv.images c n.chare).reached in let z = n.next in omega arith) in
        let work = work_of c (message_of c e) in
        with_run (ws ++ (work ∷ [])) _ (work_more w.job is ws w.run is_run work (message_of c e) (unworked h))
        (works_new w.job ok c (w.mem c).height (message_of c e) full (unworked h))

    step : WorkStep is w c e
    step = elim (lt? (length (w.run.worked c)) e.tn) [ inl h ↦ fresh h | inr h ↦ replay h ]

  pub work_step : (c : ℕ) → Chare w.job c → w.status (w.job.home c) ≢ Down
      → (e : Entry) → e ∈ (w.mem c).table → e.tn ≡ (w.mem c).height + 1 → e.received ≡ true → e.noted ≡ true → WorkStep is w c e
  work_step c chare up e member next received noted = step c e (record { chare = chare; up = up; member = member; next = next; received = received; noted = noted })
