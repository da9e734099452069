-- Frame 17: the desk's last message to a chare is in the run, unworked, so the run without its injection goes on.
use Rattle.std.specs.Prelude.{◌≡◌, refl, true, false, ◌&&◌, ◌≢◌, ℕ, ◌+◌, ◌-◌, eqb}
use Rattle.std.proofs.Common.{sym, ◌∙◌, inl}
use Rattle.std.proofs.Math.Path.{ap, subst, subst₃}
use Rattle.std.proofs.Math.Option.{Option, some, none}
use native.Mathlib.Omega.{arith}
use Rattle.std.proofs.Math.ListN.{take}
use borrow.Author.Tests.{eqb-true}
use Rattle.lists.specs.Tests.{either, true_not_false, and_l, and_r}
use Rattle.lists.specs.Map.{upd, upd_ind, upd_same}
use Rattle.lists.specs.Lists.{◌∈◌, Prefix, prefix_refl, keep}
use Rattle.protocol.specs.declared.Message.{Message}
use Rattle.protocol.specs.declared.Logged.{Logged}
use Rattle.protocol.specs.declared.Entry.{Entry}
use Rattle.protocol.specs.declared.Lookup.{Lookup}
use Rattle.protocol.specs.declared.Lookup.TheVariants.{Missing, Ticketed, Unticketed}
use Rattle.protocol.specs.declared.Status.TheVariants.{Down}
use Rattle.protocol.specs.Parts.{Memory, State}
use Rattle.protocol.specs.Work.{ports}
use Rattle.protocol.specs.Tickets.{entry}
use Rattle.protocol.specs.Packets.{for_receiver, lookup}
use Rattle.protocol.specs.Restart.{is_ticketed_above}
use Rattle.protocol.specs.Withdraw.{last_sn, without_tn, logged_without_tn, is_other, take_back, withdraw}
use Rattle.protocol.specs.Questions.{no_entry, is_there, on_wire, can_be_taken_back}
use Rattle.protocol.specs.Frames as frames
use Rattle.protocol.specs.CrashFree.{Run, run_send, crash_free}
use Rattle.protocol.specs.History.{History, without_last_to, recorded}
use Rattle.protocol.proofs.Recovery.Run.Facts.{RunOk, sent_unworked}
use Rattle.protocol.proofs.Recovery.Run.Send.{send_worked, send_sn_same}
use Rattle.protocol.proofs.Recovery.Run.Laws.{run_ok}
use Rattle.protocol.proofs.Recovery.Run.Less.{all_without_last, Fewer, inject_less}
use Rattle.protocol.proofs.Recovery.Laws.Changes.{Key}
use Rattle.protocol.proofs.Recovery.Laws.Lookups.{entry_none, Waits, lookup_unticketed}
use Rattle.protocol.proofs.Recovery.Invariant.World.{nothing_pending}
use Rattle.protocol.proofs.Recovery.Invariant.Clauses.{Chare}
use Rattle.protocol.proofs.Recovery.Invariant.Linked.{world}
use Rattle.protocol.proofs.Recovery.Invariant.Counts.{chare_not_desk}
use Rattle.protocol.proofs.Recovery.Invariant.Good.{Good, Told, Carried, keep_remove1, linked_wire, linked_memory}
use Rattle.protocol.proofs.Recovery.Invariant.Silent.{silent_memory}
use Rattle.protocol.proofs.Recovery.Steps.Withdraw.{desk_after, withdraw_step}
use Rattle.protocol.proofs.Recovery.Frames.States.{live}
use Rattle.protocol.proofs.Recovery.Frames.Calm.{Calm, calm_told}
use Rattle.protocol.proofs.Recovery.Frames.Grow.{Onward}
use Rattle.protocol.proofs.Recovery.Frames.Waiting.{same_waits, desk_not_down, desk_live, desk_counts, withdraw_waits}

-- ---- the state, beside the run that has sent it and the one that has not
module _ {s : State} {x : Run} {stable : ℕ → ℕ} (ok : RunOk s.job x) (r value hops : ℕ) (g : Good nothing_pending s (run_send x 0 r value hops) stable)
    (up : s.status (s.job.home r) ≢ Down) (empty : entry (s.live r).table 0 (x.sn 0 r + 1) ≡ none) where
  -- no machine that is down has tickets of it
  elsewhere : (c : ℕ) → s.status (s.job.home c) ≡ Down → (z : Logged) → for_receiver r (x.sn 0 r + 1) z ≡ true → is_ticketed_above c (s.copy c).height z ≡ false
  unfolding for_receiver is_ticketed_above
  elsewhere c d z e = either (eqb z.message.receiver c)
      (λ q. absurd (up (subst (λ r. s.status (s.job.home r) ≡ Down) (sym (eqb-true _ _ q) ∙ eqb-true _ _ (and_l _ _ e)) d)))
      (λ q. rw q)

  withdrawn_good : Good nothing_pending (take_back s r (x.sn 0 r + 1)) x stable
  unfolding take_back
  withdrawn_good =
      let w = world s x stable g.mem in
      let f = desk_after w r value hops in
      let n : x.sn 0 r + 1 - 1 ≡ x.sn 0 r = omega arith in
      rw n (record {
        mem = upd 0 (f (g.mem 0)) g.mem;
        linked = linked_wire (linked_memory g.linked 0 (desk_not_down g) (f (s.live 0)) (f (g.mem 0)) (ap f (desk_live g)) (λ c _ d. keep_remove1 _ _ (s.live 0).log (elsewhere c d)))
            (keep (is_other r (x.sn 0 r + 1)) s.wire);
        inv = withdraw_step w r value hops ok g.inv (λ e i. entry_none (s.live r).table 0 (x.sn 0 r + 1) empty e (subst (λ m. e ∈ m.table) (live g r up) i));
        silent = silent_memory s g.silent 0 (f (s.live 0)) (inl (inl refl));
      })

calm_withdraw : (s : State) (c n : ℕ) → Calm s (take_back s c n)
unfolding take_back
calm_withdraw s c n = record { job = refl; status = refl; lost = refl; heights = upd_ind (λ a (m : Memory). m.height ≡ (s.live a).height) 0 _ s.live refl (λ a _. refl) }

-- ---- question 12
has_message : (o : Lookup) → without_tn o ≡ true → (m : Message) × (o ≡ Unticketed m)
unfolding without_tn
has_message Missing e = true_not_false e refl
has_message Ticketed e = true_not_false e refl
has_message (Unticketed m) e = (m, refl)

is_empty : (o : Option Entry) → no_entry o ≡ true → o ≡ none
unfolding no_entry
is_empty none e = refl
is_empty (some f) e = true_not_false e refl

module _ {s : State} {h : History} (c : Carried s h) (r : ℕ) (chare : Chare s.job r) (up : s.status (s.job.home r) ≢ Down)
    (yes : can_be_taken_back s r (last_sn s r) ≡ true) where
  abbrev n : ℕ
  n = (s.live 0).sn r

  run_is : RunOk s.job c.run
  run_is = run_ok s.job h.injections c.works c.run c.chares c.is_run

  counts : n ≡ c.run.sn 0 r
  counts = ap (λ f. f r) (desk_counts c.good)

  message : (m : Message) × Waits (s.live 0).log r n m
  unfolding can_be_taken_back logged_without_tn last_sn
  message =
      let (m, e) = has_message (lookup (s.live 0).log r n) (and_l _ (is_there (on_wire s 1 0 r n)) (and_l _ _ yes)) in
      (m, lookup_unticketed (s.live 0).log r n e)

  -- the run has it, unworked
  unworked : c.run.unworked 0 r (c.run.sn 0 r) ≡ some message.1.logged.message
  unworked =
      let y = message.1 in
      let log = c.good.inv.logs 0 (inl refl) in
      let i = subst (λ (m : Memory). y.logged ∈ m.log) (sym (desk_live c.good)) y.member in
      let owner = log.owner y.logged i in
      subst₃ (λ a b k. c.run.unworked a b k ≡ some y.logged.message) owner (ap (λ (k : Key). k.0) y.of_key) (ap (λ (k : Key). k.1) y.of_key ∙ counts)
      (sent_unworked run_is y.logged.message (log.sent y.logged i)
      (λ z j q. c.waiting.unworked y.logged y.member y.no_tn (record { message = z; member = j; of_sender = ap (λ k. k.0) q ∙ owner; of_sn = ap (λ k. k.1) q })))

  fewer : Fewer s.job h.injections c.works r c.run
  fewer = inject_less s.job h.injections c.works c.run c.chares c.is_run r (chare_not_desk c.good.inv.job r chare) _ unworked

  abbrev left : Run
  left = fewer.run

  left_ok : RunOk s.job left
  left_ok = run_ok s.job (without_last_to r h.injections) c.works left (all_without_last r h.injections c.chares) fewer.is_run

  same_worked : c.run.worked ≡ left.worked
  same_worked = ap (λ x. x.worked) fewer.same ∙ send_worked left 0 r fewer.value fewer.hops

  next : n ≡ left.sn 0 r + 1
  next = counts ∙ ap (λ x. x.sn 0 r) fewer.same ∙ ap (λ f. f r) (send_sn_same left 0 r fewer.value fewer.hops) ∙ upd_same r _ (left.sn 0)

  empty : entry (s.live r).table 0 n ≡ none
  unfolding can_be_taken_back last_sn
  empty = is_empty _ (and_r (logged_without_tn s r n && is_there (on_wire s 1 0 r n)) _ yes)

  good : Good nothing_pending (withdraw s r) left c.stable
  unfolding withdraw last_sn
  good = subst (λ k. Good nothing_pending (take_back s r k) left c.stable) (sym next)
      (withdrawn_good left_ok r fewer.value fewer.hops (subst (λ x. Good nothing_pending s x c.stable) fewer.same c.good) up
      (subst (λ k. entry (s.live r).table 0 k ≡ none) next empty))

  same_told : Told s (recorded s h (frames.withdraw r)) left c.stable
  unfolding recorded
  same_told = record {
    sequence = λ a k u. c.told.sequence a k u ∙ ap (λ f. take (s.live a).height (f a)) same_worked;
    saved = λ a k. c.told.saved a k ∙ ap (λ f. take (c.stable a) (f a)) same_worked;
    nobody = λ a k. ((c.told.nobody a k).0, ap (λ f. f a) (sym same_worked) ∙ (c.told.nobody a k).1);
  }

  pub withdraw_frame : Onward c (withdraw s r) (recorded s h (frames.withdraw r))
  unfolding withdraw recorded
  withdraw_frame =
      let k = calm_withdraw s r (last_sn s r) in
      record {
        carried = record {
          works = c.works;
          run = left;
          stable = c.stable;
          is_run = subst (λ j. crash_free (ports j) (without_last_to r h.injections) c.works ≡ some left) (sym k.job) fewer.is_run;
          chares = all_without_last r h.injections c.chares;
          good = good;
          told = calm_told k same_told;
          waiting = withdraw_waits s r (last_sn s r) (same_waits same_worked c.waiting);
        };
        grows = λ a. subst (λ f. Prefix (c.run.worked a) (f a)) same_worked (prefix_refl (c.run.worked a));
      }
