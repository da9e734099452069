-- The checkpoint of a machine keeps the invariant, and what the history says.
use Rattle.std.specs.Prelude.{◌≡◌, Bool, false, not, ◌&&◌, ◌≢◌, ℕ, ◌≤◌, eqb, ltb, take}
use Rattle.std.proofs.Math.Path.{refl, ap, subst₂, fun_ext}
use Rattle.std.proofs.Common.{sym, ◌∙◌, inl, inr, arith}
use Rattle.std.proofs.Math.Bool.{true, cond}
use mathlib.Core.List.{[]}
use borrow.Author.Tests.{eqb-true, eqb-false, ltb-true, ne_eqb}
use Rattle.lists.specs.Tests.{either, eq?, and_l, or_r, true_not_false}
use Rattle.lists.specs.Map.{upd, upd_other}
use Rattle.lists.specs.Lists.{keep, keep_all}
use Rattle.protocol.specs.declared.Logged.{Logged}
use Rattle.protocol.specs.declared.Status.TheVariants.{Up, Down}
use Rattle.protocol.specs.Parts.{Job, Memory, State, on, up, at_home}
use Rattle.protocol.specs.Setters.{with_table, with_log}
use Rattle.protocol.specs.Checkpoint.{pruned, prune, fix_copy, stays_in_log, clean_log, clean_logs, checkpoint}
use Rattle.protocol.specs.Restart.{is_ticketed_above}
use Rattle.protocol.specs.Frames.{checkpoint as checkpoint-frame}
use Rattle.protocol.specs.CrashFree.{Run}
use Rattle.protocol.specs.History.{History, recorded}
use Rattle.protocol.proofs.Recovery.Run.Facts.{RunOk}
use Rattle.protocol.proofs.Recovery.Invariant.World.{Pending, nothing_pending}
use Rattle.protocol.proofs.Recovery.Invariant.Clauses.{InvP}
use Rattle.protocol.proofs.Recovery.Invariant.Linked.{world, Linked}
use Rattle.protocol.proofs.Recovery.Invariant.Good.{Good, Told, SameTickets, keep_within, linked_live}
use Rattle.protocol.proofs.Recovery.Frames.States.{is_up}
use Rattle.protocol.proofs.Recovery.Laws.Restored.{restored_table_same}
use Rattle.protocol.proofs.Recovery.Laws.AtHome.{at_home_on, at_home_off, at_home_ind}
use Rattle.protocol.proofs.Recovery.Steps.Checkpoint.{checkpoint_fix}
use Rattle.protocol.proofs.Recovery.Steps.Log.{logs_clean}
use Rattle.protocol.proofs.Recovery.Laws.Status.{not_down}

-- whether a machine is up, from its status
pub up_true : (s : State) (p : ℕ) → s.status p ≢ Down → up s p ≡ true
unfolding up
up_true s p d = or_r (eqb p 0) _ (ap not (not_down (s.status p) d))

pub up_false : (s : State) (p : ℕ) → s.status 0 ≡ Up → s.status p ≡ Down → up s p ≡ false
up_false s p desk d = either (up s p) (λ e. absurd (is_up s p desk e d)) (λ e. e)

-- what leaves a log passes all three parts of the test
leaves : (a b c : Bool) → not (a && not b && c) ≡ false → (a ≡ true) × (b ≡ false) × (c ≡ true)
leaves true true c e = true_not_false refl e
leaves true false true e = (refl, refl, refl)
leaves true false false e = true_not_false refl e
leaves false b c e = true_not_false refl e

module _ {A : Type 0} (j : Job) (q : ℕ) where
  -- changes that agree on machine q
  pub at_home_same : (g k : ℕ → A → A) (f : ℕ → A) → ((c : ℕ) → j.home c ≡ q → g c (f c) ≡ k c (f c)) → at_home j q g f ≡ at_home j q k f
  at_home_same g k f e = fun_ext (at_home_ind (λ c a. a ≡ at_home j q k f c) j q g f
      (λ c h. e c h ∙ sym (at_home_on j q k f c h))
      (λ c d. sym (at_home_off j q k f c d)))

  -- maps that agree at c
  pub at_home_of : (g : ℕ → A → A) (f k : ℕ → A) (c : ℕ) → f c ≡ k c → at_home j q g f c ≡ at_home j q g k c
  unfolding at_home
  at_home_of g f k c e = ap (λ a. cond (on j q c) (g c a) a) e

-- ---- a checkpoint changes no height, and pruning no log
module _ (s : State) (q : ℕ) where
  abbrev pruned_mem : (ℕ → Memory) → ℕ → Memory
  pruned_mem = at_home s.job q (λ c m. pruned m)

  pruned_log : (c : ℕ) → (pruned_mem s.live c).log ≡ (s.live c).log
  unfolding pruned
  pruned_log = at_home_ind (λ c m. m.log ≡ (s.live c).log) s.job q (λ c m. pruned m) s.live (λ c _. refl) (λ c _. refl)

  pruned_height : (c : ℕ) → (pruned_mem s.live c).height ≡ (s.live c).height
  unfolding pruned
  pruned_height = at_home_ind (λ c m. m.height ≡ (s.live c).height) s.job q (λ c m. pruned m) s.live (λ c _. refl) (λ c _. refl)

  clean_height : (c : ℕ) → (clean_log s q c).height ≡ (s.live c).height
  unfolding clean_log
  clean_height c = either (up s (s.job.home c)) (λ u. rw u) (λ u. rw u)

  pub checkpoint_job : (checkpoint s q).job ≡ s.job
  unfolding checkpoint clean_logs fix_copy prune
  checkpoint_job = refl

  pub checkpoint_status : (checkpoint s q).status ≡ s.status
  unfolding checkpoint clean_logs fix_copy prune
  checkpoint_status = refl

pub checkpoint_height : (s : State) (q c : ℕ) → ((checkpoint s q).live c).height ≡ (s.live c).height
unfolding checkpoint clean_logs fix_copy prune
checkpoint_height s q c = clean_height (fix_copy (prune s q) q) q c ∙ pruned_height s q c

-- ---- the tables lose what was worked, and the copy is fixed
module _ (s : State) (x : Run) (stable : ℕ → ℕ) (g : Good nothing_pending s x stable) (q : ℕ) (not_desk : q ≢ 0) (is-on : s.status q ≢ Down) where
  abbrev fixed : State
  fixed = fix_copy (prune s q) q

  abbrev heights : ℕ → ℕ
  heights = at_home s.job q (λ c h. (s.live c).height) stable

  -- what the machine has is what the world has
  here_live : (c : ℕ) → s.job.home c ≡ q → g.mem c ≡ s.live c
  here_live c e = g.linked.up c (λ d. is-on (ap s.status (sym e) ∙ d))

  -- a machine that is down is another one
  elsewhere : (c : ℕ) → s.status (s.job.home c) ≡ Down → s.job.home c ≢ q
  elsewhere c d e = is-on (ap s.status (sym e) ∙ d)

  fixed_inv : InvP nothing_pending (world fixed x heights (pruned_mem s q g.mem))
  unfolding fix_copy prune
  fixed_inv = subst₂ (λ h c. InvP nothing_pending (record {
    job = s.job;
    run = x;
    stable = h;
    status = s.status;
    target = s.target;
    mem = pruned_mem s q g.mem;
    held = upd q true s.held;
    copy = c;
    notes = upd q [] s.notes;
    wire = s.wire;
  }))
      (at_home_same s.job q (λ c h. (g.mem c).height) (λ c h. (s.live c).height) stable (λ c e. ap (λ m. m.height) (here_live c e)))
      (at_home_same s.job q (λ c m. pruned_mem s q g.mem c) (λ c m. pruned_mem s q s.live c) s.copy
      (λ c e. at_home_of s.job q (λ c m. pruned m) g.mem s.live c (here_live c e)))
      (checkpoint_fix g.inv q not_desk is-on)

  fixed_linked : Linked fixed (pruned_mem s q g.mem)
  unfolding fix_copy prune
  fixed_linked = record {
    up = λ c u. at_home_of s.job q (λ c m. pruned m) g.mem s.live c (g.linked.up c u);
    down = λ c k d.
        let off = elsewhere c d in
        let same_copy : fixed.copy c ≡ s.copy c = at_home_off s.job q (λ c m. pruned_mem s q s.live c) s.copy c off in
        let same = restored_table_same s fixed (s.job.home c) c refl same_copy (upd_other q [] s.notes (s.job.home c) off)
        (λ a _ _. ap (keep (is_ticketed_above c (s.copy c).height)) (pruned_log s q a)) in
        at_home_off s.job q (λ c m. pruned m) g.mem c off ∙ g.linked.down c k d ∙ (λ i. with_table (sym same_copy i) (sym same i));
  }

  fixed_good : Good nothing_pending fixed x heights
  unfolding fix_copy prune
  fixed_good = record { mem = pruned_mem s q g.mem; linked = fixed_linked; inv = fixed_inv; silent = λ a d e. pruned_log s q a ∙ g.silent a d e }

-- ---- the logs lose what is stable
module _ {p : Pending} (s : State) (x : Run) (stable : ℕ → ℕ) (ok : RunOk s.job x) (g : Good p s x stable) (q : ℕ) (is-on : s.status q ≢ Down)
    (reached : (r : ℕ) → s.job.home r ≡ q → (s.live r).height ≤ stable r) where
  -- the logs of a machine that is down are not there to be cleaned
  remains : ℕ → Logged → Bool
  remains a = cond (up s (s.job.home a)) (stays_in_log s q) (λ _. true)

  abbrev cleaned : ℕ → Memory
  cleaned a = with_log (g.mem a) (keep (remains a) (g.mem a).log)

  goes_low : (y : Logged) → stays_in_log s q y ≡ false → (y.tn ≢ 0) × (y.tn ≤ stable y.message.receiver)
  unfolding stays_in_log on
  goes_low y e =
      let r = y.message.receiver in
      let (h, n, k) = leaves (eqb (s.job.home r) q) (eqb y.tn 0) (ltb y.tn (s.live r).height) e in
      let a = ltb-true y.tn (s.live r).height k in
      let b = reached r (eqb-true (s.job.home r) q h) in
      (eqb-false y.tn 0 n, omega arith)

  remains_low : (a : ℕ) (y : Logged) → remains a y ≡ false → (y.tn ≢ 0) × (y.tn ≤ stable y.message.receiver)
  unfolding remains
  remains_low a y e = either (up s (s.job.home a)) (λ u. goes_low y (rw u at e)) (λ u. true_not_false refl (rw u at e))

  clean_inv : InvP p (world (clean_logs s q) x stable cleaned)
  unfolding clean_logs
  clean_inv = logs_clean ok g.inv remains (λ a _ y _. remains_low a y) cleaned (λ a _. refl)

  -- a message to a chare of a machine that is down stays
  stays_elsewhere : (c h : ℕ) → s.status (s.job.home c) ≡ Down → (y : Logged) → is_ticketed_above c h y ≡ true → stays_in_log s q y ≡ true
  unfolding stays_in_log on is_ticketed_above
  stays_elsewhere c h d y e =
      let r = eqb-true y.message.receiver c (and_l _ _ e) in
      rw (ne_eqb (s.job.home y.message.receiver) q (λ z. is-on (ap s.status (sym z ∙ ap s.job.home r) ∙ d)))

  same_tickets : SameTickets s (clean_log s q)
  unfolding clean_log
  same_tickets c a k d _ = either (up s (s.job.home a))
      (λ u. rw u (keep_within (is_ticketed_above c (s.copy c).height) (stays_in_log s q) (s.live a).log (stays_elsewhere c (s.copy c).height d)))
      (λ u. rw u)

  clean_up : (c : ℕ) → s.status (s.job.home c) ≢ Down → cleaned c ≡ clean_log s q c
  unfolding clean_log remains
  clean_up c u = rw (up_true s (s.job.home c) u, g.linked.up c u)

  clean_down : (c : ℕ) → s.status (s.job.home c) ≡ Down → cleaned c ≡ g.mem c
  unfolding remains
  clean_down c d = ap (with_log (g.mem c)) (keep_all (remains c) (g.mem c).log (λ y _. rw (up_false s (s.job.home c) g.inv.machines.desk d)))

  clean_silent : (a : ℕ) → (s.live a).log ≡ [] → (clean_log s q a).log ≡ []
  unfolding clean_log keep
  clean_silent a e = either (up s (s.job.home a)) (λ u. rw u (ap (keep (stays_in_log s q)) e)) (λ u. rw u e)

  clean_good : Good p (clean_logs s q) x stable
  unfolding clean_logs
  clean_good = record {
    mem = cleaned;
    linked = linked_live g.linked (clean_log s q) cleaned clean_up (λ c _. clean_down c) same_tickets;
    inv = clean_inv;
    silent = λ a n e. clean_silent a (g.silent a n e);
  }

-- ---- the whole
pub checkpoint_good : (s : State) (x : Run) (stable : ℕ → ℕ) → RunOk s.job x → Good nothing_pending s x stable → (q : ℕ) → q ≢ 0 → s.status q ≢ Down
    → Good nothing_pending (checkpoint s q) x (at_home s.job q (λ c h. (s.live c).height) stable)
unfolding checkpoint fix_copy prune
checkpoint_good s x stable ok g q not_desk is-on =
    clean_good (fix_copy (prune s q) q) x (at_home s.job q (λ c h. (s.live c).height) stable) ok (fixed_good s x stable g q not_desk is-on) q is-on
    (λ r h.
    let a = pruned_height s q r in
    let b = at_home_on s.job q (λ c h. (s.live c).height) stable r h in
    omega arith)

-- the history: what stands now is what the copy has
pub checkpoint_told : (s : State) (x : Run) (stable : ℕ → ℕ) → Good nothing_pending s x stable → (q : ℕ) → q ≢ 0 → s.status q ≢ Down → (h : History) → Told s h x stable
    → Told (checkpoint s q) (recorded s h (checkpoint-frame q)) x (at_home s.job q (λ c h. (s.live c).height) stable)
unfolding checkpoint clean_logs fix_copy prune recorded
checkpoint_told s x stable _ q _ is-on h told = record {
  sequence = λ c chare u. told.sequence c chare u ∙ ap (λ k. take k (x.worked c)) (sym (checkpoint_height s q c));
  saved = λ c chare. elim (eq? (s.job.home c) q) [
    | inl e ↦
        at_home_on s.job q (λ c l. h.sequence c) h.saved c e ∙ told.sequence c chare (λ d. is-on (ap s.status (sym e) ∙ d))
        ∙ ap (λ k. take k (x.worked c)) (sym (at_home_on s.job q (λ c h. (s.live c).height) stable c e))
    | inr d ↦
        at_home_off s.job q (λ c l. h.sequence c) h.saved c d ∙ told.saved c chare
        ∙ ap (λ k. take k (x.worked c)) (sym (at_home_off s.job q (λ c h. (s.live c).height) stable c d))
  ];
  nobody = told.nobody;
}
