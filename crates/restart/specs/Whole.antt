-- A restart put together: the tables in rows, the wire beside the store, and the store changed by both.
use Rattle.std.specs.Prelude.{◌≡◌, refl, Bool, true, false, not, List, ◌≢◌, ℕ, ◌≤◌, eqb, length}
use Rattle.std.proofs.Common.{◌∙◌, arith}
use Rattle.std.proofs.Math.Path.{fun_ext}
use Rattle.std.proofs.Math.Option.{Option}
use Rattle.lists.specs.{Tests.either, Lists.{keep, gather}, Map.upd, Questions.{put_all, first_no}}
use Rattle.protocol.specs.{declared.Rule.TheVariants.Other, declared.Answer.TheVariants.{Accepted, Refused}, declared.Packet.Packet, declared.Status.TheVariants.CatchingUp}
use Rattle.protocol.specs.{Parts.{State, on, at_home, every_sender, is_down}, Setters.{with_status, with_live, with_wire}, Packets.goes_to}
use Rattle.protocol.specs.Restart.{restart, restore, restored, target_of}
use Rattle.protocol.specs.{Questions.{restart_questions, is_machine, wire_fits}, Step.judged}
use Rattle.words.specs.Part.{part}
use Rattle.head.specs.Head.{job_of}
use Rattle.packets.specs.{Words.packets, Fits.packets_fit}
use Rattle.store.specs.{Places.{WIRE, PACKETS, STORE}, View.{view, outcome, tried, Framed}, ViewLaws.wire_at, Framing.{refuses, accepts, machine_in}}
use Rattle.restart.specs.{Limited.{held, limit, held_same}, Stored.job_at, OnMachine.{on_first, on_last}, Restored.renewed, Homes.{AllTables, new_memory, all_back}}
use Rattle.restart.specs.{Resends.{all_again, resends_is}, Sent.{putting, putting_all}, Judged.{asked, early, late}}

-- p is catching up, its chares have the tables in the rows, and w is on the wire
unfoldable pub back : State → ℕ → List (List ℕ) → List Packet → State
back s p rows w = with_wire (all_back (with_status s (upd p CatchingUp s.status) s.target) p rows) w

-- ---- the rule book's restart, by its parts
module _ (s : State) (p : ℕ) (rows : List (List ℕ)) (same : (c : ℕ) → on s.job p c ≡ true → new_memory s rows c ≡ restored s p c) where
  same_live : at_home s.job p (λ c m. new_memory s rows c) s.live ≡ (restore s p).live
  unfolding restore at_home
  same_live = fun_ext (λ c. either (on s.job p c) (λ e. rw (e, same c e)) (λ e. rw e))

  same_target : at_home s.job p (λ c t. target_of (new_memory s rows c)) s.target ≡ (restore s p).target
  unfolding restore at_home
  same_target = fun_ext (λ c. either (on s.job p c) (λ e. rw (e, same c e)) (λ e. rw e))

  back_restart : (w : List Packet) → w ≡ (restart s p).wire → back s p rows w ≡ restart s p
  unfolding back all_back new_memory restart restore
  back_restart w e = λ i. with_wire (with_live (with_status s (upd p CatchingUp s.status) (same_target i)) (same_live i)) (e i)

-- ---- the frame, as the code goes
module _ (xs : List ℕ) (size : length xs ≡ STORE) (p : ℕ) where
  pub refuse_first : (n : ℕ) → n ≡ first_no (asked (view xs) p) → n ≢ 0 → Framed xs xs (Refused n) (tried (view xs) (restart_questions (view xs) p) (restart (view xs) p))
  refuse_first n e h = refuses xs n (early (view xs) p n e h)

  module _ (e : 0 ≡ first_no (asked (view xs) p)) where
    pub machine : (1 ≤ p) × (p ≤ 6)
    unfolding asked is_machine view
    machine = machine_in xs p 0 (view xs).job.set (is_machine (view xs) p) (not (view xs).lost) (is_down ((view xs).status p)) e refl refl

    pub refuse_tables : (rows : List (List ℕ)) → AllTables (view xs) p rows false → Framed xs xs (Refused 10) (tried (view xs) (restart_questions (view xs) p) (restart (view xs) p))
    unfolding judged put_all
    refuse_tables rows built = refuses xs 10 (late (view xs) p e ∙ rw (← built.fits))

    module _ (rows : List (List ℕ)) (built : AllTables (view xs) p rows true) (a b d : List ℕ) (copied : a ≡ part WIRE PACKETS xs) (long : length b ≡ PACKETS)
        (kept : packets b ≡ keep (λ x. not (eqb (goes_to (job_of xs) x) p)) (packets a)) where
      abbrev sent : Option (List Packet)
      sent = putting (packets b) (gather (all_again (view xs) p) every_sender)

      same : (c : ℕ) → on (view xs).job p c ≡ true → new_memory (view xs) rows c ≡ restored (view xs) p c
      unfolding new_memory renewed restored
      same c o = rw (built.table refl c (on_first xs (omega arith) p machine.0 c o) (on_last xs (omega arith) p machine.0 c o) o)

      limited : (y : Bool) → held y (packets d) ≡ sent → (y ≡ wire_fits (restart (view xs) p)) × (y ≡ true → packets d ≡ (restart (view xs) p).wire)
      unfolding limit wire_fits restart restore
      limited y put = held_same y _ (packets d) _ (put ∙ putting_all (packets b) _ (omega (arith, packets_fit b)) ∙ rw (kept, copied, ← wire_at xs, ← job_at xs, ← resends_is (view xs) p))

      pub refuse_wire : held false (packets d) ≡ sent → Framed xs xs (Refused 11) (tried (view xs) (restart_questions (view xs) p) (restart (view xs) p))
      unfolding judged put_all
      refuse_wire put = refuses xs 11 (late (view xs) p e ∙ rw (← built.fits, ← (limited false put).0))

      pub accept : held true (packets d) ≡ sent → (out : List ℕ) → view out ≡ back (view xs) p rows (packets d) → Framed xs out (Accepted Other) (tried (view xs) (restart_questions (view xs) p) (restart (view xs) p))
      unfolding outcome judged put_all
      accept put out q =
          let fits = limited true put in
          let same_state = q ∙ back_restart (view xs) p rows same (packets d) (fits.1 refl) in
          accepts xs out (late (view xs) p e ∙ rw (← built.fits, ← fits.0, same_state))
