-- Machines that have caught up: settling keeps what is carried.
use Rattle.std.specs.Prelude.{◌≡◌, refl, true, not, ◌≢◌, List, [], ◌∷◌, ℕ, ◌≤◌, eqb, leb}
use Rattle.std.proofs.Common.{sym, ◌∙◌, leb-true, eq-eqb}
use Rattle.std.proofs.Math.Path.{ap, subst}
use Rattle.lists.specs.Tests.{either, and_l, and_r, true_not_false}
use Rattle.lists.specs.Map.{upd, upd_ind}
use Rattle.lists.specs.Lists.{◌∈◌, allb_true, mem_keep}
use Rattle.protocol.specs.declared.Status.TheVariants.{Up, Down, CatchingUp}
use Rattle.protocol.specs.Parts.{Memory, State, on, every_chare, job_machines, is_catching_up, at_home}
use Rattle.protocol.specs.Setters.{with_status, with_table}
use Rattle.protocol.specs.Restart.{has_caught_up, is_done, settle_machine, settle_all, settle}
use Rattle.protocol.specs.CrashFree.{Run}
use Rattle.protocol.specs.History.{History}
use Rattle.protocol.proofs.Recovery.Run.Facts.{RunOk}
use Rattle.protocol.proofs.Recovery.Invariant.World.{nothing_pending}
use Rattle.protocol.proofs.Recovery.Invariant.Linked.{Linked}
use Rattle.protocol.proofs.Recovery.Laws.Restored.{restored_table_same}
use Rattle.protocol.proofs.Recovery.Laws.AtHome.{at_home_off}
use Rattle.protocol.proofs.Recovery.Invariant.Good.{Good, Told}
use Rattle.protocol.proofs.Recovery.Steps.Settle.{settle_step}
use Rattle.protocol.proofs.Recovery.Laws.Status.{up_not_down, catching_up_not_down, catching}

not_zero : (n : ℕ) → not (eqb n 0) ≡ true → n ≢ 0
not_zero n e q = true_not_false e (ap not (eq-eqb n 0 q))

module _ (s : State) (q : ℕ) (catch : s.status q ≡ CatchingUp) where
  abbrev now_up : State
  now_up = with_status s (upd q Up s.status) (at_home s.job q (λ c t. 0) s.target)

  -- nobody was down who is not
  was_up : (p : ℕ) → upd q Up s.status p ≢ Down → s.status p ≢ Down
  was_up p = upd_ind (λ p t. t ≢ Down → s.status p ≢ Down) q Up s.status (λ _ e. catching_up_not_down (sym catch ∙ e)) (λ p _ u. u) p

  was_down : (p : ℕ) → upd q Up s.status p ≡ Down → s.status p ≡ Down
  was_down p = upd_ind (λ p t. t ≡ Down → s.status p ≡ Down) q Up s.status (λ e. absurd (up_not_down e)) (λ p _ u. u) p

  settled_linked : {mem : ℕ → Memory} → Linked s mem → Linked now_up mem
  settled_linked linked = record {
    up = λ c u. linked.up c (was_up (s.job.home c) u);
    down = λ c k d. linked.down c k (was_down (s.job.home c) d)
        ∙ ap (with_table (s.copy c)) (sym (restored_table_same s now_up (s.job.home c) c refl refl refl (λ a _ _. refl)));
  }

  settled_told : {h : History} {x : Run} {stable : ℕ → ℕ} → Told s h x stable → Told now_up h x stable
  settled_told told = record { sequence = λ c k u. told.sequence c k (was_up (s.job.home c) u); saved = told.saved; nobody = told.nobody }

  settled_good : {x : Run} {stable : ℕ → ℕ} → RunOk s.job x → Good nothing_pending s x stable
      → ((c : ℕ) → c ∈ every_chare → s.job.home c ≡ q → has_caught_up s c ≡ true) → Good nothing_pending now_up x stable
  unfolding has_caught_up
  settled_good ok g done = record {
    mem = g.mem;
    linked = settled_linked g.linked;
    inv = settle_step ok g.inv q catch
        (λ c k e.
        let d = done c (g.inv.job.chare c k) e in
        let m = g.linked.up c (λ z. catching_up_not_down (sym catch ∙ ap s.status (sym e) ∙ z)) in (
          subst (λ m. s.target c ≤ m.height) (sym m) (leb-true _ _ (and_l _ _ d)),
          λ y i. not_zero y.tn (allb_true _ (s.live c).log (and_r (leb (s.target c) (s.live c).height) _ d) y (subst (λ m. y ∈ m.log) m i)),
        ))
        (at_home s.job q (λ c t. 0) s.target)
        (λ c d. at_home_off s.job q (λ c t. 0) s.target c d);
    silent = g.silent;
  }

-- ---- one machine, then all
pub record Settled (s t : State) (x : Run) (stable : ℕ → ℕ) (h : History) : Type 0 where
  pub job : t.job ≡ s.job
  pub good : Good nothing_pending t x stable
  pub told : Told t h x stable
  pub known : (p : ℕ) → t.status p ≢ Up → s.status p ≢ Up

settled_refl : {s : State} {x : Run} {stable : ℕ → ℕ} {h : History} → Good nothing_pending s x stable → Told s h x stable → Settled s s x stable h
settled_refl g told = record { job = refl; good = g; told = told; known = λ p u. u }

settle_one : (s : State) (q : ℕ) {x : Run} {stable : ℕ → ℕ} {h : History} → RunOk s.job x → Good nothing_pending s x stable → Told s h x stable → Settled s (settle_machine s q) x stable h
unfolding settle_machine is_done on
settle_one s q ok g told = either (is_done s q)
    (λ e. rw e (
    let c = catching (s.status q) (and_l _ _ e) in
    record {
      job = refl;
      good = settled_good s q c ok g (λ a i d. allb_true _ _ (and_r (is_catching_up (s.status q)) _ e) a (mem_keep _ i (eq-eqb _ _ d)));
      told = settled_told s q c told;
      known = λ p. upd_ind (λ p t. t ≢ Up → s.status p ≢ Up) q Up s.status (λ u. absurd (u refl)) (λ p _ u. u) p;
    }))
    (λ e. rw e (settled_refl g told))

settle_them : (s : State) (l : List ℕ) {x : Run} {stable : ℕ → ℕ} {h : History} → RunOk s.job x → Good nothing_pending s x stable → Told s h x stable → Settled s (settle_all s l) x stable h
unfolding settle_all
settle_them s [] ok g told = settled_refl g told
settle_them s (q ∷ l) {x} ok g told =
    let a = settle_one s q ok g told in
    let b = settle_them (settle_machine s q) l (subst (λ j. RunOk j x) (sym a.job) ok) a.good a.told in
    record { job = b.job ∙ a.job; good = b.good; told = b.told; known = λ p u. a.known p (b.known p u) }

pub keep_settle : (s : State) {x : Run} {stable : ℕ → ℕ} {h : History} → RunOk s.job x → Good nothing_pending s x stable → Told s h x stable → Settled s (settle s) x stable h
unfolding settle
keep_settle s ok g told = settle_them s (job_machines s.job) ok g told
