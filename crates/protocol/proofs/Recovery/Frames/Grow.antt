-- Frames 10 and 12: the run grows, and what is to be sent is sent.
use Rattle.std.specs.Prelude.{◌≡◌, true, ◌≢◌, [], ◌∷◌, ◌++◌, ℕ, ◌+◌, ◌-◌}
use Rattle.std.proofs.Math.Path.{refl, sym, ap, subst}
use Rattle.std.proofs.Common.{◌∙◌, arith}
use Rattle.std.proofs.Math.Logic.{inl, inr}
use Rattle.std.proofs.Math.Option.{some}
use Rattle.std.proofs.Math.ListN.{take}
use Rattle.lists.specs.Tests.{eq?, and_i}
use Rattle.lists.specs.Map.{upd, upd_ind, upd_same, upd_other}
use Rattle.lists.specs.Lists.{◌∈◌, All, all_snoc, Prefix, prefix_refl}
use Rattle.protocol.specs.declared.Entry.{Entry}
use Rattle.protocol.specs.declared.Status.TheVariants.{Down}
use Rattle.protocol.specs.Parts.{Memory, State}
use Rattle.protocol.specs.Work.{work, receivers, sent_value, ports}
use Rattle.protocol.specs.Sending.{send_all}
use Rattle.protocol.specs.Working.{next_entry, work_entry, worked_only, value_out, hops_out, receivers_of, work_next}
use Rattle.protocol.specs.Questions.{window_admits, put_to_all, put_to_sends}
use Rattle.protocol.specs.Frames.{inject}
use Rattle.protocol.specs.CrashFree.{Injection, Run, crash_free, run_send}
use Rattle.protocol.specs.History.{History, message_of, add_worked, recorded}
use Rattle.protocol.proofs.Recovery.Run.Facts.{RunOk}
use Rattle.protocol.proofs.Recovery.Run.Send.{send_worked}
use Rattle.protocol.proofs.Recovery.Run.Laws.{run_ok, inject_more}
use Rattle.protocol.proofs.Recovery.Laws.Lookups.{next_entry_some}
use Rattle.protocol.proofs.Recovery.Laws.Places.{take_within}
use Rattle.protocol.proofs.Recovery.Invariant.World.{nothing_pending}
use Rattle.protocol.proofs.Recovery.Invariant.Clauses.{Chare, InvP}
use Rattle.protocol.proofs.Recovery.Invariant.Linked.{world}
use Rattle.protocol.proofs.Recovery.Invariant.Counts.{chare_not_desk}
use Rattle.protocol.proofs.Recovery.Invariant.Good.{Good, Told, Carried, linked_memory}
use Rattle.protocol.proofs.Recovery.Steps.Log.{to_send}
use Rattle.protocol.proofs.Recovery.Steps.Inject.{inject_step}
use Rattle.protocol.proofs.Recovery.Steps.Work.{WorkStep, work_step}
use Rattle.protocol.proofs.Recovery.Frames.Calm.{calm_told, calm_send_all}
use Rattle.protocol.proofs.Recovery.Frames.SendAll.{keep_send_all, all_sent}
use Rattle.protocol.proofs.Recovery.Frames.Waiting.{same_waits, desk_not_down, waiting_grown, work_stays, inject_waits}
use Rattle.protocol.proofs.Recovery.Invariant.Ticks.{stable_reached}

-- what is carried on, its run grown
pub record Onward {s : State} {h : History} (c : Carried s h) (t : State) (k : History) : Type 0 where
  pub carried : Carried t k
  pub grows : (a : ℕ) → Prefix (c.run.worked a) (carried.run.worked a)

sent_good : {s : State} {x : Run} {stable : ℕ → ℕ} (a v h : ℕ) → Good (to_send a [] v h) s x stable → Good nothing_pending s x stable
sent_good a v h g = record { mem = g.mem; linked = g.linked; inv = all_sent a v h g.inv; silent = g.silent }

-- ---- frame 10
module _ {s : State} {h : History} (c : Carried s h) (r v n : ℕ) (chare : Chare s.job r) (admits : window_admits s 0 r ≡ true) where
  abbrev injection : Injection
  injection = record { chare = r; value = v; hops = n }

  abbrev longer : Run
  longer = run_send c.run 0 r v n

  is_longer : crash_free (ports s.job) (h.injections ++ (injection ∷ [])) c.works ≡ some longer
  is_longer = inject_more s.job h.injections c.works c.run c.chares injection c.is_run

  more_chares : All (λ (i : Injection). i.chare ≢ 0) (h.injections ++ (injection ∷ []))
  more_chares = all_snoc h.injections c.chares (chare_not_desk c.good.inv.job r chare)

  longer_ok : RunOk s.job longer
  longer_ok = run_ok s.job (h.injections ++ (injection ∷ [])) c.works longer more_chares is_longer

  owing : Good (to_send 0 (r ∷ []) v n) s longer c.stable
  owing = record {
    mem = c.good.mem;
    linked = c.good.linked;
    silent = c.good.silent;
    inv = inject_step h.injections c.works c.chares c.is_run c.good.inv injection chare;
  }

  same_told : Told s (recorded s h (inject r v n)) longer c.stable
  unfolding recorded
  same_told =
      let e = send_worked c.run 0 r v n in
      record {
        sequence = λ a k u. c.told.sequence a k u ∙ ap (λ f. take (s.live a).height (f a)) (sym e);
        saved = λ a k. c.told.saved a k ∙ ap (λ f. take (c.stable a) (f a)) (sym e);
        nobody = λ a k. ((c.told.nobody a k).0, ap (λ f. f a) e ∙ (c.told.nobody a k).1);
      }

  pub inject_frame : Onward c (send_all s 0 (r ∷ []) v n) (recorded s h (inject r v n))
  unfolding put_to_all recorded send_all run_send
  inject_frame =
      let k = calm_send_all s 0 (r ∷ []) v n in
      record {
        carried = record {
          works = c.works;
          run = longer;
          stable = c.stable;
          is_run = subst (λ j. crash_free (ports j) (h.injections ++ (injection ∷ [])) c.works ≡ some longer) (sym k.job) is_longer;
          chares = more_chares;
          good = sent_good 0 v n (keep_send_all s longer_ok 0 (r ∷ []) v n owing (desk_not_down c.good) (and_i _ _ admits refl));
          told = calm_told k same_told;
          waiting = same_waits (sym (send_worked c.run 0 r v n)) (inject_waits (run_ok s.job h.injections c.works c.run c.chares c.is_run) c.good r v n c.waiting);
        };
        grows = λ a. subst (λ f. Prefix (c.run.worked a) (f a)) (sym (send_worked c.run 0 r v n)) (prefix_refl (c.run.worked a));
      }

-- ---- frame 12
module _ {s : State} {h : History} (c : Carried s h) (r : ℕ) (chare : Chare s.job r) (up : s.status (s.job.home r) ≢ Down) (e : Entry)
    (found : next_entry (s.live r) ≡ some e) (received : e.received ≡ true) (noted : e.noted ≡ true)
    (admits : put_to_sends window_admits s r e ≡ true) where
  mem_is : c.good.mem r ≡ s.live r
  mem_is = c.good.linked.up r up

  done : WorkStep h.injections (world s c.run c.stable c.good.mem) r e
  done =
      let (i, t) = next_entry_some (s.live r) found in
      work_step h.injections c.works c.chares c.is_run c.good.inv r chare up e
      (subst (λ m. e ∈ m.table) (sym mem_is) i) (subst (λ m. e.tn ≡ m.height + 1) (sym mem_is) t) received noted

  done_ok : RunOk s.job done.run
  done_ok = run_ok s.job h.injections done.works done.run c.chares done.is_run

  worked_good : Good (to_send r (receivers_of s r e) (value_out s r e) (hops_out e)) (worked_only s r e) done.run c.stable
  unfolding worked_only receivers_of value_out hops_out work_entry
  worked_good = record {
    mem = upd r (work_entry (c.good.mem r) e) c.good.mem;
    linked = linked_memory c.good.linked r up (work_entry (s.live r) e) (work_entry (c.good.mem r) e) (ap (λ m. work_entry m e) mem_is) (λ a k d. refl);
    silent = λ a d z. upd_ind (λ a (m : Memory). m.log ≡ (s.live a).log) r (work_entry (s.live r) e) s.live refl (λ a _. refl) a ∙ c.good.silent a d z;
    inv = subst (λ m. InvP (to_send r (receivers (ports s.job) r e.hops) (sent_value (work m.state e.value)) (e.hops - 1))
        (world (worked_only s r e) done.run c.stable (upd r (work_entry (c.good.mem r) e) c.good.mem))) mem_is done.inv;
  }

  abbrev told_of : History
  told_of = add_worked h r (some e)

  -- what c has worked is one message more; the others as before
  worked_told : Told (worked_only s r e) told_of done.run c.stable
  unfolding worked_only add_worked work_entry
  worked_told = record {
    sequence = λ a k u. sequences a k u;
    saved = λ a k. c.told.saved a k ∙ sym (take_within (done.grows a) (c.stable a)
        (let b = c.good.inv.heights.above_stable a k in let d = (c.good.inv.images.image a k).reached in omega arith));
    nobody = λ a z.
        let d : a ≢ r = λ q. chare (ap s.job.home (sym q) ∙ z) in
        (upd_other r _ h.sequence a d ∙ (c.told.nobody a z).0, done.others a d ∙ (c.told.nobody a z).1);
  }
    where
      sequences : (a : ℕ) → Chare s.job a → s.status (s.job.home a) ≢ Down
          → upd r (h.sequence r ++ (message_of r e ∷ [])) h.sequence a ≡ take (upd r (work_entry (s.live r) e) s.live a).height (done.run.worked a)
      sequences a k u = elim (eq? a r) [
        | inl q ↦ subst (λ a. upd r (h.sequence r ++ (message_of r e ∷ [])) h.sequence a ≡ take (upd r (work_entry (s.live r) e) s.live a).height (done.run.worked a)) (sym q)
            (upd_same r (h.sequence r ++ (message_of r e ∷ [])) h.sequence
            ∙ ap (◌++ (message_of r e ∷ [])) (c.told.sequence r chare up ∙ ap (λ m. take m.height (c.run.worked r)) (sym mem_is))
            ∙ sym done.longer ∙ ap (λ m. take (m.height + 1) (done.run.worked r)) mem_is
            ∙ ap (λ (m : Memory). take m.height (done.run.worked r)) (sym (upd_same r (work_entry (s.live r) e) s.live)))
        | inr d ↦ upd_other r _ h.sequence a d ∙ c.told.sequence a k u ∙ ap (take (s.live a).height) (sym (done.others a d))
            ∙ ap (λ (m : Memory). take m.height (done.run.worked a)) (sym (upd_other r (work_entry (s.live r) e) s.live a d))
      ]

  pub work_step_frame : Onward c (work_next s r e) told_of
  unfolding work_next put_to_sends worked_only add_worked
  work_step_frame =
      let k = calm_send_all (worked_only s r e) r (receivers_of s r e) (value_out s r e) (hops_out e) in
      let good = sent_good r _ _ (keep_send_all (worked_only s r e) worked_ok r (receivers_of s r e) (value_out s r e) (hops_out e) worked_good worked_up admits) in
      record {
        carried = record {
          works = done.works;
          run = done.run;
          stable = c.stable;
          is_run = subst (λ j. crash_free (ports j) told_of.injections done.works ≡ some done.run) (sym k.job) (told_run done.is_run);
          chares = told_chares c.chares;
          good = good;
          told = calm_told k worked_told;
          waiting = waiting_grown good c.run done.grows (λ a d. stable_reached c.good.inv a (subst (λ j. Chare j a) k.job d)) (rw (work_stays s r e (chare_not_desk c.good.inv.job r chare)) c.waiting);
        };
        grows = done.grows;
      }
    where
      worked_ok : RunOk (worked_only s r e).job done.run
      worked_ok = done_ok

      worked_up : (worked_only s r e).status ((worked_only s r e).job.home r) ≢ Down
      worked_up = up

      told_run : crash_free (ports s.job) h.injections done.works ≡ some done.run → crash_free (ports (worked_only s r e).job) told_of.injections done.works ≡ some done.run
      told_run q = q

      told_chares : All (λ (i : Injection). i.chare ≢ 0) h.injections → All (λ (i : Injection). i.chare ≢ 0) told_of.injections
      told_chares q = q
