-- The restart of a machine keeps the invariant, and what the history says.
use Rattle.std.specs.Prelude.{◌≡◌, refl, ℕ}
use Rattle.std.proofs.Common.{sym, ◌∙◌}
use Rattle.std.proofs.Math.Path.{ap}
use Rattle.std.proofs.Math.Logic.{inl, inr}
use Rattle.std.proofs.Math.ListN.{take}
use Rattle.lists.specs.Tests.{eq?}
use Rattle.lists.specs.Lists.{keep_mem}
use Rattle.protocol.specs.declared.Status.TheVariants.{Down}
use Rattle.protocol.specs.Parts.{State}
use Rattle.protocol.specs.Restart.{restored, restore, restart, resends}
use Rattle.protocol.specs.Frames.{restart as restart-frame}
use Rattle.protocol.specs.CrashFree.{Run}
use Rattle.protocol.specs.History.{History, recorded}
use Rattle.protocol.proofs.Recovery.Invariant.World.{nothing_pending}
use Rattle.protocol.proofs.Recovery.Invariant.Clauses.{InvP}
use Rattle.protocol.proofs.Recovery.Invariant.Linked.{world}
use Rattle.protocol.proofs.Recovery.Invariant.Silent.{Silent}
use Rattle.protocol.proofs.Recovery.Invariant.Good.{Good, Told}
use Rattle.protocol.proofs.Recovery.Laws.AtHome.{at_home_on, at_home_off}
use Rattle.protocol.proofs.Recovery.Steps.Wire.{wire_less, wire_more}
use Rattle.protocol.proofs.Recovery.Steps.RestartTables.{not_desk, here_held, there_up, restored_inv}
use Rattle.protocol.proofs.Recovery.Steps.RestartWire.{none_down, catch_up, resends_fit}

module _ (s : State) (x : Run) (stable : ℕ → ℕ) (g : Good nothing_pending s x stable) (q : ℕ) (down : s.status q ≡ Down) where
  -- ---- the machine is back, and what went to it is gone
  restore_inv : InvP nothing_pending (world (restore s q) x stable (restore s q).live)
  unfolding restore
  restore_inv = wire_less (catch_up (restored_inv g.linked g.inv q down) q down) (restore s q).wire (λ y i. (keep_mem _ s.wire i).0)

  restore_silent : Silent (restore s q)
  unfolding restore
  restore_silent a d e =
      ap (λ m. m.log) (at_home_off s.job q (λ c m. restored s q c) s.live a (λ h. not_desk g.linked g.inv q down (sym h ∙ e))) ∙ g.silent a d e

  -- ---- messages are sent again
  pub restart_step : Good nothing_pending (restart s q) x stable
  unfolding restart restore
  restart_step = record {
    mem = (restart s q).live;
    linked = record { up = λ c _. refl; down = λ c _ d. absurd (none_down g.inv q down _ d) };
    inv = wire_more restore_inv (resends (restore s q) q) (resends_fit (restore s q) restore_inv restore_silent q);
    silent = restore_silent;
  }

  -- ---- the history: what stood when the copy was fixed is what the copy has
  pub restart_told : (h : History) → Told s h x stable → Told (restart s q) (recorded s h (restart-frame q)) x stable
  unfolding restart restore restored recorded
  restart_told h told = record {
    sequence = λ c chare _. elim (eq? (s.job.home c) q) [
      | inl e ↦
          let copied = g.inv.heights.copied c chare (here_held g.linked g.inv q down c e) in
          at_home_on s.job q (λ c l. h.saved c) h.sequence c e ∙ told.saved c chare
          ∙ ap (λ k. take k (x.worked c)) (sym (ap (λ m. m.height) (at_home_on s.job q (λ c m. restored s q c) s.live c e) ∙ copied))
      | inr d ↦
          at_home_off s.job q (λ c l. h.saved c) h.sequence c d ∙ told.sequence c chare (there_up g.linked g.inv q down c d)
          ∙ ap (λ m. take m.height (x.worked c)) (sym (at_home_off s.job q (λ c m. restored s q c) s.live c d))
    ];
    saved = told.saved;
    nobody = λ c e.
        (at_home_off s.job q (λ c l. h.saved c) h.sequence c (λ i. not_desk g.linked g.inv q down (sym i ∙ e)) ∙ (told.nobody c e).0, (told.nobody c e).1);
  }
