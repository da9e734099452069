-- The crash of a machine with cover keeps the invariant.
use Rattle.std.specs.Prelude.{◌≡◌, true, ◌≢◌, ℕ}
use Rattle.std.proofs.Math.Path.{refl, sym, ap, fun_ext}
use Rattle.std.proofs.Common.{◌∙◌, subst}
use Rattle.lists.specs.Lists.{◌∈◌, keep}
use Rattle.protocol.specs.declared.Status.TheVariants.{Up}
use Rattle.protocol.specs.Parts.{Memory, State, every_machine, blank}
use Rattle.protocol.specs.Setters.{with_table}
use Rattle.protocol.specs.Crash.{crash}
use Rattle.protocol.specs.Restart.{restored_table, is_ticketed_above}
use Rattle.protocol.specs.CrashFree.{Run}
use Rattle.protocol.proofs.Recovery.Run.Facts.{RunOk}
use Rattle.protocol.proofs.Recovery.Invariant.World.{nothing_pending}
use Rattle.protocol.proofs.Recovery.Invariant.Clauses.{InvP}
use Rattle.protocol.proofs.Recovery.Invariant.Linked.{world, Linked}
use Rattle.protocol.proofs.Recovery.Invariant.Good.{Good}
use Rattle.protocol.proofs.Recovery.Laws.AtHome.{at_home_off}
use Rattle.protocol.proofs.Recovery.Invariant.Homes.{elsewhere, machine_not_desk}
use Rattle.protocol.proofs.Recovery.Laws.Restored.{restored_table_same}
use Rattle.protocol.proofs.Recovery.Invariant.Silent.{Silent}
use Rattle.protocol.proofs.Recovery.Steps.CrashTables.{Covered}
use Rattle.protocol.proofs.Recovery.Steps.CrashParts.{memory_after, held_after, copy_after, memory_here, memory_elsewhere, copy_still, notes_still, here_down, down_here, held_here, notes_tick, logs_after}
use Rattle.protocol.proofs.Recovery.Steps.CrashClauses.{machines_after, images_after, heights_after, tables_after, ordered_after, remembered_after, noted_after, copies_after}
use Rattle.protocol.proofs.Recovery.Steps.CrashWire.{world_after, wire_after}
use Rattle.protocol.proofs.Recovery.Laws.Status.{down_not_up}

-- live memories elsewhere stay
live_elsewhere : (s : State) (q c : ℕ) → s.job.home c ≢ q → (crash s q).live c ≡ s.live c
unfolding crash
live_elsewhere s q c d = at_home_off s.job q (λ c m. blank) s.live c d

-- who is neither the desk nor a chare is on no machine
crash_silent : (s : State) (q : ℕ) → q ∈ every_machine → Silent s → Silent (crash s q)
unfolding crash
crash_silent s q machine silent a d e =
    ap (λ (m : Memory). m.log) (live_elsewhere s q a (λ h. machine_not_desk q machine (sym h ∙ e))) ∙ silent a d e

module _ {s : State} {x : Run} {stable : ℕ → ℕ} {q : ℕ} (b : Covered s x stable q) where
  -- what a restart would put back is the same after the crash: copy, notes, and the logs elsewhere are
  restored_after : (c : ℕ) → s.job.home c ≡ q → with_table ((crash s q).copy c) (restored_table (crash s q) q c) ≡ with_table (s.copy c) (restored_table s q c)
  unfolding crash
  restored_after c h =
      let copy : copy_after s q c ≡ s.copy c = copy_still s q c (ap (held_after s q) h ∙ held_here b) in
      let table = restored_table_same s (crash s q) q c refl copy (notes_still s q q (held_here b))
      (λ a _ e. ap (λ (m : Memory). keep (is_ticketed_above c (s.copy c).height) m.log) (live_elsewhere s q a (elsewhere s.job q a e))) in
      λ i. with_table (copy i) (table i)

  linked_after : Linked (crash s q) (memory_after s q)
  unfolding crash
  linked_after = record {
    up = λ c d.
        let e : s.job.home c ≢ q = λ h. d (here_down b _ h) in
        memory_elsewhere s q c e ∙ sym (live_elsewhere s q c e);
    down = λ c _ u.
        let h : s.job.home c ≡ q = down_here b _ u in
        memory_here s q c h ∙ sym (restored_after c h) ∙ ap (λ p. with_table ((crash s q).copy c) (restored_table (crash s q) p c)) (sym h);
  }

  inv_after : InvP nothing_pending (world_after s x stable q)
  inv_after = record {
    job = b.inv.job;
    domain = b.inv.domain;
    machines = machines_after b;
    images = images_after b;
    heights = heights_after b;
    tables = tables_after b;
    ordered = ordered_after b;
    remembered = remembered_after b;
    noted = noted_after b;
    logs = logs_after b;
    copies = copies_after b;
    notes = notes_tick b;
    wire = wire_after b;
  }

  good_after : Good nothing_pending (crash s q) x stable
  unfolding crash
  good_after = record { mem = memory_after s q; linked = linked_after; inv = inv_after; silent = crash_silent s q b.machine b.silent }

pub crash_step : (s : State) (x : Run) (stable : ℕ → ℕ) → RunOk s.job x → (g : Good nothing_pending s x stable) → (q : ℕ) → q ∈ every_machine
    → ((p : ℕ) → s.status p ≡ Up) → s.held q ≡ true → Good nothing_pending (crash s q) x stable
crash_step s x stable ok g q machine normal held =
    let live : g.mem ≡ s.live = fun_ext (λ c. g.linked.up c (λ e. down_not_up (sym e ∙ normal _))) in
    good_after (record {
      ok = ok;
      inv = subst (λ m. InvP nothing_pending (world s x stable m)) live g.inv;
      machine = machine;
      normal = normal;
      held = held;
      silent = g.silent;
    })
