-- A crash with cover, the clauses on images, heights, tables, notes and copies.
use Rattle.std.specs.Prelude.{◌≡◌, refl, true, false, ◌⊎◌, ◌≢◌, ℕ, ◌≤◌, ◌<◌, length, take}
use Rattle.std.proofs.Common.{sym, ap, ◌∙◌, subst, inl, inr, arith}
use Rattle.lists.specs.Tests.{true_not_false}
use Rattle.lists.specs.Lists.{◌∈◌, All}
use Rattle.protocol.specs.declared.Entry.{Entry}
use Rattle.protocol.specs.declared.Status.TheVariants.{Up}
use Rattle.protocol.specs.Parts.{Memory, State}
use Rattle.protocol.specs.Setters.{with_table}
use Rattle.protocol.specs.Sending.{is_local}
use Rattle.protocol.specs.Restart.{restored_table}
use Rattle.protocol.specs.CrashFree.{Run}
use Rattle.protocol.proofs.Recovery.Laws.Marks.{In, marked_same}
use Rattle.protocol.proofs.Recovery.Invariant.World.{nothing_pending, counted, Owed, Place, LoggedAs}
use Rattle.protocol.proofs.Recovery.Invariant.Clauses.{Chare, Machines, Image, Images, Heights, Table, Tables, Ordered, Remembers, Remembered, Keeps, Noted, Copies}
use Rattle.protocol.proofs.Recovery.Laws.AtHome.{at_home_ind}
use Rattle.protocol.proofs.Recovery.Invariant.Counts.{counted_nothing}
use Rattle.protocol.proofs.Recovery.Steps.Checkpoint.{copy_same}
use Rattle.protocol.proofs.Recovery.Laws.Restored.{by_copy, restored_table_mem}
use Rattle.protocol.proofs.Recovery.Steps.CrashTables.{Covered, not_desk, here_chare, here_held, here_height, source_kept, all_restored, not_received, all_noted, restored_ok}
use Rattle.protocol.proofs.Recovery.Steps.CrashParts.{status_after, memory_after, held_after, copy_after, notes_after, memory_here, memory_elsewhere, still_held, copy_still, kept_still, elsewhere_up, here_down, up_elsewhere, not_up_here, down_here, held_here, tick_after, copy_log}
use Rattle.protocol.proofs.Recovery.Laws.Status.{catching_up_not_up, catching_up_not_down}
use Rattle.protocol.proofs.Recovery.Invariant.Homes.{local_home}

module _ {s : State} {x : Run} {stable : ℕ → ℕ} {q : ℕ} (b : Covered s x stable q) where
  -- what holds of the memories that a restart would put back, and of the live ones elsewhere
  after : (P : ℕ → Memory → Type 0) → ((c : ℕ) → s.job.home c ≡ q → P c (with_table (s.copy c) (restored_table s q c)))
      → ((c : ℕ) → s.job.home c ≢ q → P c (s.live c)) → (c : ℕ) → P c (memory_after s q c)
  after P = at_home_ind P s.job q (λ c m. with_table (s.copy c) (restored_table s q c)) s.live

  -- the desk is not on q
  desk_elsewhere : s.job.home 0 ≢ q
  desk_elsewhere e = not_desk b (sym e ∙ b.inv.job.desk)

  pub machines_after : Machines (status_after s q) (held_after s q)
  machines_after = record {
    desk = elsewhere_up b 0 (λ e. not_desk b (sym e));
    one = λ p r d e. not_up_here b p d ∙ sym (not_up_here b r e);
    covered = λ p e. ap (held_after s q) (down_here b p e) ∙ held_here b;
  }

  here_image : (c : ℕ) → s.job.home c ≡ q → Image s.job x c (with_table (s.copy c) (restored_table s q c)) (s.copy c).sn
  here_image c h =
      let g = (b.inv.copies c (here_chare b c h) (here_held b c h)).image in
      record { reached = g.reached; state = g.state; counts = g.counts; marks = marked_same (with_table (s.copy c) (restored_table s q c)) refl refl g.marks }

  pub images_after : Images s.job x nothing_pending (memory_after s q)
  images_after = record {
    image = after (λ c m. Chare s.job c → Image s.job x c m (counted nothing_pending c m.sn))
        (λ c h _. subst (Image s.job x c (with_table (s.copy c) (restored_table s q c))) (sym (counted_nothing c (s.copy c).sn)) (here_image c h))
        (λ c _. b.inv.images.image c);
    desk = subst (λ m. counted nothing_pending 0 m.sn ≡ x.sn 0) (sym (memory_elsewhere s q 0 desk_elsewhere)) b.inv.images.desk;
    owed = subst (λ m. Owed x 0 nothing_pending.receivers 0 0 m.sn) (sym (memory_elsewhere s q 0 desk_elsewhere)) b.inv.images.owed;
    owing = b.inv.images.owing;
    owed_to = b.inv.images.owed_to;
  }

  pub heights_after : Heights s.job x stable (status_after s q) s.target (memory_after s q) (held_after s q) (copy_after s q)
  heights_after = record {
    normal = λ c chare u. ap (λ m. m.height) (memory_elsewhere s q c (up_elsewhere b _ u)) ∙ b.inv.heights.normal c chare (b.normal _);
    catching_up = λ c _ u. absurd (catching_up_not_down (sym u ∙ here_down b _ (not_up_here b _ (λ e. catching_up_not_up (sym u ∙ e)))));
    down = λ c _ u. let h = down_here b _ u in ap (λ m. m.height) (memory_here s q c h) ∙ here_height b c h;
    above_stable = after (λ c m. Chare s.job c → stable c ≤ m.height)
        (λ c h _. let e = here_height b c h in omega arith)
        (λ c _. b.inv.heights.above_stable c);
    copied = λ c chare held. ap (λ m. m.height) (copy_still s q c held) ∙ b.inv.heights.copied c chare (still_held s q _ held);
  }

  pub tables_after : Tables s.job x stable (memory_after s q)
  tables_after = after (λ c m. Chare s.job c → Table x c (stable c) m.table) (λ c h _. restored_ok b c h) (λ c _. b.inv.tables c)

  -- whoever is local to a chare is where it is
  local_here : (a c : ℕ) → is_local s.job a c ≡ true → s.job.home c ≡ q → s.job.home a ≡ q
  local_here a c l h = local_home s.job a c l ∙ h

  local_elsewhere : (a c : ℕ) → is_local s.job a c ≡ true → s.job.home c ≢ q → s.job.home a ≢ q
  local_elsewhere a c l d h = d (sym (local_home s.job a c l) ∙ h)

  pub ordered_after : Ordered s.job x (memory_after s q)
  ordered_after = record {
    received = after
        (λ c m. Chare s.job c → All (λ e. is_local s.job e.sender c ≡ true → e.received ≡ true → e.sn ≤ (memory_after s q e.sender).sn c) m.table)
        (λ c h _ e i _ y. true_not_false y (not_received b c h e i))
        (λ c d chare e i l y.
        subst (λ m. e.sn ≤ m.sn c) (sym (memory_elsewhere s q e.sender (local_elsewhere e.sender c l d))) (b.inv.ordered.received c chare e i l y));
    worked = λ c a n chare l. after
        (λ c m. Chare s.job c → is_local s.job a c ≡ true → In (take m.height (x.worked c)) a n → n ≤ (memory_after s q a).sn c)
        (λ c h chare l i. subst (λ m. n ≤ m.sn c) (sym (memory_here s q a (local_here a c l h))) ((b.inv.copies c chare (here_held b c h)).ordered a n l i))
        (λ c d chare l i. subst (λ m. n ≤ m.sn c) (sym (memory_elsewhere s q a (local_elsewhere a c l d))) (b.inv.ordered.worked c a n chare l i))
        c chare l;
  }

  pub remembered_after : Remembered s.job x stable (status_after s q) (memory_after s q)
  remembered_after = after
      (λ c m. Chare s.job c → Remembers s.job x stable (status_after s q) (memory_after s q) c m.table)
      (λ c h chare e i o l u k. old_log c e u (all_restored b c h
      (λ a n t. stable c < t → is_local s.job a c ≡ false → t ≤ length (x.worked c) → LoggedAs (s.live a).log c n t)
      (λ f j o l k. b.inv.remembered c chare f j o l (b.normal _) (inr k))
      e i o l (elim k [ inl y ↦ true_not_false y (not_received b c h e i) | inr y ↦ y ])))
      (λ c d chare e i o l u k. old_log c e u (b.inv.remembered c chare e i o l (b.normal _) k))
    where
      old_log : (c : ℕ) (e : Entry) → status_after s q (s.job.home e.sender) ≡ Up → LoggedAs (s.live e.sender).log c e.sn e.tn
          → LoggedAs (memory_after s q e.sender).log c e.sn e.tn
      old_log c e u y = subst (λ m. LoggedAs m.log c e.sn e.tn) (sym (memory_elsewhere s q e.sender (up_elsewhere b _ u))) y

  pub noted_after : Noted s.job x stable (memory_after s q) (held_after s q) (copy_after s q) (notes_after s q)
  noted_after = record {
    unnoted = after
        (λ c m. Chare s.job c → All (λ e. e.noted ≡ false → (is_local s.job e.sender c ≡ true) × (length (x.worked c) < e.tn)) m.table)
        (λ c h _ e i y. true_not_false (all_noted b c h e i) y)
        (λ c _. b.inv.noted.unnoted c);
    noted = λ c chare held e i o l y. kept_still s q c e.sender e.sn e.tn held (after
        (λ c m. Chare s.job c → held_after s q (s.job.home c) ≡ true → Keeps s.job stable s.copy s.notes c m.table)
        (λ c h _ _ e i _ l _. source_kept b h l (restored_table_mem s q c i).source)
        (λ c _ chare held. b.inv.noted.noted c chare (still_held s q _ held))
        c chare held e i o l y);
  }

  pub copies_after : Copies s.job x stable (memory_after s q) (held_after s q) (copy_after s q)
  copies_after c chare held =
      let was = still_held s q (s.job.home c) held in
      let g = b.inv.copies c chare was in
      copy_same s.copy (copy_after s q) (λ a h. sym (copy_still s q a (ap (held_after s q) h ∙ held))) (record {
        image = g.image;
        log = copy_log b c chare was;
        ordered = g.ordered;
        kept = λ y i d. after
            (λ c m. y ∈ (s.copy c).log → LoggedAs (s.live c).log y.message.receiver y.message.sn y.tn
            ⊎ ((y.tn ≤ stable y.message.receiver) × Place (x.worked y.message.receiver) y.tn c y.message.sn)
            → LoggedAs m.log y.message.receiver y.message.sn y.tn
            ⊎ ((y.tn ≤ stable y.message.receiver) × Place (x.worked y.message.receiver) y.tn c y.message.sn))
            (λ c _ i _. inl (record { logged = y; member = i; of_receiver = refl; of_sn = refl; of_tn = refl }))
            (λ c _ _ k. k)
            c i (g.kept y i d);
        local = g.local;
        table = λ e i.
            let (k, t) = g.table e i in
            (k, tick_after b (λ _ _. by_copy (record { ticket = e; member = i; of_sender = refl; of_sn = refl; of_tn = refl })) t);
      })
