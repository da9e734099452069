-- A crash with cover, the tables: what a restart of the machine would put back is a part of the tables that were, with every ticket
-- that the run has worked.
use Rattle.std.specs.Prelude.{◌≡◌, refl, true, false, ◌≢◌, List, [], ◌∷◌, ℕ, ◌-◌, ◌≤◌, ◌<◌, length, take}
use Rattle.std.proofs.Math.Path.{sym, ap, subst₃}
use Rattle.std.proofs.Common.{◌∙◌, subst, inl, inr, arith}
use mathlib.Core.List.Memᴰ.{head as here}
use mathlib.Core.List.Memᴰ.{tail as there}
use Rattle.lists.specs.Tests.{either, eq?, true_not_false}
use Rattle.lists.specs.Lists.{◌∈◌, All}
use Rattle.lists.specs.Keys.{NoDup, uniq}
use Rattle.protocol.specs.declared.Entry.{Entry}
use Rattle.protocol.specs.declared.Status.TheVariants.{Up}
use Rattle.protocol.specs.Parts.{State, every_machine}
use Rattle.protocol.specs.Sending.{is_local}
use Rattle.protocol.specs.Tickets.{unreceived}
use Rattle.protocol.specs.Restart.{restored_table}
use Rattle.protocol.specs.CrashFree.{Run}
use Rattle.protocol.proofs.Recovery.Run.Facts.{RunOk}
use Rattle.protocol.proofs.Recovery.Laws.Marks.{In, Reach}
use Rattle.protocol.proofs.Recovery.Invariant.World.{nothing_pending, Place, HasEntry, Tick, SentKey, LoggedAs, Kept}
use Rattle.protocol.proofs.Recovery.Invariant.Clauses.{Chare, Table, InvP}
use Rattle.protocol.proofs.Recovery.Invariant.Linked.{world}
use Rattle.protocol.proofs.Recovery.Invariant.Ticks.{tick_entered, entered_entry}
use Rattle.protocol.proofs.Recovery.Laws.Restored.{Source, by_copy, by_log, by_note, restored_table_mem, restored_the, nodup_restored_table}
use Rattle.protocol.proofs.Recovery.Invariant.Homes.{remote_home, not_on, elsewhere, machine_not_desk, sender_known, local_home}
use Rattle.protocol.proofs.Recovery.Invariant.Silent.{Silent, logs_sender}
use Rattle.protocol.proofs.Recovery.Laws.Lookups.{entry_key}

-- where equal values of h have equal keys, no two have one value
pub nodup_finer : {A K H : Type 0} (k : A → K) (h : A → H) (l : List A) → NoDup k l → ((a b : A) → a ∈ l → b ∈ l → h a ≡ h b → k a ≡ k b) → NoDup h l
unfolding NoDup
nodup_finer k h [] d same = tt
nodup_finer k h (y ∷ l) d same =
    ((λ a i e. d.0 a i (same a y (there i) (here refl) e)), nodup_finer k h l d.1 (λ a b i j. same a b (there i) (there j)))

-- machine q can crash: the invariant holds, all machines are normal, and the copy of q is held
pub record Covered (s : State) (x : Run) (stable : ℕ → ℕ) (q : ℕ) : Type 0 where
  pub ok : RunOk s.job x
  pub inv : InvP nothing_pending (world s x stable s.live)
  pub machine : q ∈ every_machine
  pub normal : (p : ℕ) → s.status p ≡ Up
  pub held : s.held q ≡ true
  pub silent : Silent s

module _ {s : State} {x : Run} {stable : ℕ → ℕ} {q : ℕ} (b : Covered s x stable q) where
  pub not_desk : q ≢ 0
  not_desk = machine_not_desk q b.machine

  -- whoever is on q is a chare, whose copy is held
  pub here_chare : (c : ℕ) → s.job.home c ≡ q → Chare s.job c
  here_chare c h e = not_desk (sym h ∙ e)

  pub here_held : (c : ℕ) → s.job.home c ≡ q → s.held (s.job.home c) ≡ true
  here_held c h = ap s.held h ∙ b.held

  pub here_height : (c : ℕ) → s.job.home c ≡ q → (s.copy c).height ≡ stable c
  here_height c h = b.inv.heights.copied c (here_chare c h) (here_held c h)

  -- ---- what a source knows is a ticket above the stable height, and was entered
  source_tick : {c a n t : ℕ} → s.job.home c ≡ q → Source s q c a n t → Tick x s.live c a n t × (stable c < t)
  source_tick {c} h (by_copy r) =
      let (k, y) = (b.inv.copies c (here_chare c h) (here_held c h)).table r.ticket r.member in
      let e = here_height c h in
      let f = r.of_tn in
      (subst₃ (Tick x s.live c) r.of_sender r.of_sn r.of_tn y, omega arith)
  source_tick {c} h (by_log r) =
      let log = b.inv.logs r.place (logs_sender s b.silent r.place r.member) in
      let k = r.above in
      let e = here_height c h in
      let f = r.of_tn in
      let y = log.tick r.logged r.member (λ z. omega arith) in (
        subst₃ (Tick x s.live c) (sym (log.owner r.logged r.member) ∙ r.of_sender) r.of_sn r.of_tn
            (subst (λ c. Tick x s.live c r.place r.logged.message.sn r.logged.tn) r.of_receiver y),
        omega arith,
      )
  source_tick {c} h (by_note r) =
      let (_, _, _, y) = b.inv.notes q r.note r.member in
      let k = r.above in
      let e = here_height c h in (
        subst₃ (Tick x s.live c) r.of_sender r.of_sn r.of_tn
            (subst (λ c. Tick x s.live c r.note.sender r.note.sn r.note.tn) r.of_receiver y),
        omega arith,
      )

  source_old : {c a n t : ℕ} → s.job.home c ≡ q → Source s q c a n t → HasEntry (s.live c).table a n t
  source_old {c} h r = let (y, k) = source_tick h r in tick_entered (b.inv.tables c (here_chare c h)) k y

  -- ---- and the restored table has it
  pub source_entered : {c a n t : ℕ} → s.job.home c ≡ q → Source s q c a n t → HasEntry (restored_table s q c) a n t
  unfolding unreceived
  source_entered {c} {a} {n} {t} h r =
      let table = b.inv.tables c (here_chare c h) in
      let same = entered_entry (b.ok.distinct c) table (source_old h r) in
      record {
        entry = unreceived a n t;
        member = restored_the s q c r (λ u v. let o = source_old h v in sym o.of_tn ∙ same o.entry o.member o.of_sender o.of_sn);
        of_sender = refl;
        of_sn = refl;
        of_tn = refl;
      }

  -- ---- what is safe with the buddy, and every entry above the stable height that the run has worked, has a source
  kept_source : {c a n t : ℕ} → s.job.home c ≡ q → stable c < t → Kept s.job s.copy s.notes c a n t → Source s q c a n t
  kept_source {c} h k (inl r) =
      let e = here_height c h in
      by_note (record {
        note = r.note;
        member = subst (λ p. r.note ∈ s.notes p) h r.member;
        of_receiver = r.of_receiver;
        of_sender = r.of_sender;
        of_sn = r.of_sn;
        of_tn = r.of_tn;
        above = omega arith;
      })
  kept_source {c} h k (inr r) = by_copy (record { ticket = r.entry; member = r.member; of_sender = r.of_sender; of_sn = r.of_sn; of_tn = r.of_tn })

  -- of local messages only the buddy knows the tickets
  pub source_kept : {c a n t : ℕ} → s.job.home c ≡ q → is_local s.job a c ≡ true → Source s q c a n t → Kept s.job s.copy s.notes c a n t
  source_kept h l (by_copy r) = inr (record { entry = r.ticket; member = r.member; of_sender = r.of_sender; of_sn = r.of_sn; of_tn = r.of_tn })
  source_kept {c} {a} h l (by_log r) =
      let owner = (b.inv.logs r.place (logs_sender s b.silent r.place r.member)).owner r.logged r.member in
      absurd (elsewhere s.job q r.place r.elsewhere (ap s.job.home (sym owner ∙ r.of_sender) ∙ local_home s.job a c l ∙ h))
  source_kept {c} h l (by_note r) = inl (record {
    note = r.note;
    member = subst (λ p. r.note ∈ s.notes p) (sym h) r.member;
    of_sender = r.of_sender;
    of_receiver = r.of_receiver;
    of_sn = r.of_sn;
    of_tn = r.of_tn;
  })

  -- a ticket in a log elsewhere
  pub logged_source : {c a n t : ℕ} → s.job.home c ≡ q → s.job.home a ≢ q → stable c < t → LoggedAs (s.live a).log c n t → Source s q c a n t
  logged_source {c} {a} h d k r =
      let sender = logs_sender s b.silent a r.member in
      let e = here_height c h in
      by_log (record {
        place = a;
        known = sender_known b.inv.job a sender;
        elsewhere = not_on s.job q a d;
        logged = r.logged;
        member = r.member;
        of_receiver = r.of_receiver;
        of_sender = (b.inv.logs a sender).owner r.logged r.member;
        of_sn = r.of_sn;
        of_tn = r.of_tn;
        above = omega arith;
      })

  pub remote_elsewhere : {a c : ℕ} → s.job.home c ≡ q → is_local s.job a c ≡ false → s.job.home a ≢ q
  remote_elsewhere {a} {c} h l e = elim (eq? a 0) [
    | inl z ↦ not_desk (sym e ∙ ap s.job.home z ∙ b.inv.job.desk)
    | inr d ↦ remote_home s.job a c d l (e ∙ sym h)
  ]

  worked_source : {c : ℕ} → s.job.home c ≡ q → (e : Entry) → e ∈ (s.live c).table → stable c < e.tn → e.tn ≤ length (x.worked c) → Source s q c e.sender e.sn e.tn
  worked_source {c} h e i above k =
      let chare = here_chare c h in
      either (is_local s.job e.sender c)
      (λ l. either e.noted
      (λ z. kept_source h above (b.inv.noted.noted c chare (here_held c h) e i above l z))
      (λ z. let (_, d) = b.inv.noted.unnoted c chare e i z in absurd (omega arith)))
      (λ l. logged_source h (remote_elsewhere h l) above (b.inv.remembered c chare e i above l (b.normal _) (inr k)))

  -- ---- the restored table of chare c
  module _ (c : ℕ) (h : s.job.home c ≡ q) where
    pub restored_old : {e : Entry} → e ∈ restored_table s q c → HasEntry (s.live c).table e.sender e.sn e.tn
    restored_old i = source_old h (restored_table_mem s q c i).source

    -- what holds of every entry that was, by its name and TN
    pub all_restored : (P : ℕ → ℕ → ℕ → Type 0) → All (λ e. P e.sender e.sn e.tn) (s.live c).table → All (λ e. P e.sender e.sn e.tn) (restored_table s q c)
    all_restored P p e i = let o = restored_old i in subst₃ P o.of_sender o.of_sn o.of_tn (p o.entry o.member)

    pub not_received : All (λ e. e.received ≡ false) (restored_table s q c)
    unfolding unreceived
    not_received e i = ap (λ (e : Entry). e.received) (restored_table_mem s q c i).plain

    pub all_noted : All (λ e. e.noted ≡ true) (restored_table s q c)
    unfolding unreceived
    all_noted e i = ap (λ (e : Entry). e.noted) (restored_table_mem s q c i).plain

    pub restored_ok : Table x c (stable c) (restored_table s q c)
    restored_ok =
        let table = b.inv.tables c (here_chare c h) in
        record {
          complete = λ t k l.
              let (e, i, p) = table.complete t k l in
              let y = source_entered h (worked_source h e i (omega arith) (omega arith)) in
              (y.entry, y.member, y.of_tn ∙ p);
          positive = all_restored (λ _ _ t. 1 ≤ t) table.positive;
          tns = nodup_finer entry_key (λ (e : Entry). e.tn) _ (nodup_restored_table s q c) (λ e f i k z.
              let o = restored_old i in
              let p = restored_old k in
              let w = uniq (λ (e : Entry). e.tn) table.tns o.member p.member (o.of_tn ∙ z ∙ sym p.of_tn) in
              λ i. ((sym o.of_sender ∙ ap (λ (e : Entry). e.sender) w ∙ p.of_sender) i, (sym o.of_sn ∙ ap (λ (e : Entry). e.sn) w ∙ p.of_sn) i));
          keys = nodup_restored_table s q c;
          sent = all_restored (λ a n _. SentKey x a c n) table.sent;
          past = all_restored (λ a n t. t ≤ length (x.worked c) → Place (x.worked c) t a n) table.past;
          fresh = all_restored (λ a n t. length (x.worked c) < t → In (x.worked c) a n → ⊥) table.fresh;
          reach = all_restored (λ a n t. Reach (take (t - 1) (x.worked c)) a n) table.reach;
          body = λ e i y. true_not_false y (not_received e i);
        }
