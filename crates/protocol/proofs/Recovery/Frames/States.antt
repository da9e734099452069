-- One small change of a state at a time: what the steps of the world say of the state that the definitions make.
use Rattle.std.specs.Prelude.{◌≡◌, true, ◌≢◌, List, [], ◌∷◌, ◌++◌, ℕ, eqb}
use Rattle.std.proofs.Math.Path.{refl}
use Rattle.std.proofs.Common.{sym, ap, ◌∙◌, subst, inl, inr, arith, eqb-true}
use Rattle.lists.specs.Tests.{or_cases, not_true}
use Rattle.lists.specs.Map.{upd, upd_ind}
use Rattle.lists.specs.Lists.{keep}
use Rattle.protocol.specs.declared.Logged.{Logged}
use Rattle.protocol.specs.declared.Entry.{Entry}
use Rattle.protocol.specs.declared.Note.{Note}
use Rattle.protocol.specs.declared.Packet.{Packet}
use Rattle.protocol.specs.declared.Content.{Content}
use Rattle.protocol.specs.declared.Status.{Status}
use Rattle.protocol.specs.declared.Status.TheVariants.{Up, Down}
use Rattle.protocol.specs.Parts.{State, up}
use Rattle.protocol.specs.Setters.{with_table, with_log, with_wire, with_notes}
use Rattle.protocol.specs.Sending.{put}
use Rattle.protocol.specs.Packets.{reply, new_table, new_log}
use Rattle.protocol.specs.Restart.{is_ticketed_above}
use Rattle.protocol.specs.CrashFree.{Run}
use Rattle.protocol.proofs.Recovery.Invariant.World.{World, Pending, put_mem, put_wire, put_notes, SentKey}
use Rattle.protocol.proofs.Recovery.Invariant.Clauses.{Chare, Sender, InvP, Fits, PacketOk}
use Rattle.protocol.proofs.Recovery.Invariant.Linked.{world}
use Rattle.protocol.proofs.Recovery.Invariant.Good.{Good, linked_wire, linked_memory, linked_notes}
use Rattle.protocol.proofs.Recovery.Invariant.Silent.{silent_memory}
use Rattle.protocol.proofs.Recovery.Steps.Retable.{put_table}
use Rattle.protocol.proofs.Recovery.Steps.Wire.{wire_put}
use Rattle.protocol.proofs.Recovery.Laws.Status.{down_is}

-- question 5: the machine is not down
pub is_up : (s : State) (p : ℕ) → s.status 0 ≡ Up → up s p ≡ true → s.status p ≢ Down
unfolding up
is_up s p desk e = elim (or_cases (eqb p 0) _ e) [
  | inl z ↦ (λ d. let h : s.status 0 ≡ Down = subst (λ p. s.status p ≡ Down) (eqb-true p 0 z) d in let q : ◌≡◌ {A = Status} Up Down = sym desk ∙ h in let y : ◌≡◌ {A = ℕ} 0 1 = cc in omega arith)
  | inr z ↦ down_is (s.status p) (not_true _ z)
]

module _ {p : Pending} {s : State} {x : Run} {stable : ℕ → ℕ} (g : Good p s x stable) where
  abbrev pub world_now : World
  world_now = world s x stable g.mem

  unfoldable pub good_wire : (l : List Packet) → InvP p (put_wire world_now l) → Good p (with_wire s l) x stable
  good_wire l i = record { mem = g.mem; linked = linked_wire g.linked l; inv = i; silent = g.silent }

  pub good_put : (y : Packet) → PacketOk world_now y → Good p (put s y) x stable
  unfolding put
  good_put y h = good_wire (s.wire ++ (y ∷ [])) (wire_put g.inv y h)

  pub good_reply : (y : Packet) (c : Content) → SentKey x y.sender y.receiver y.sn → Fits world_now y.sender y.receiver y.sn c → Good p (reply s y c) x stable
  unfolding reply
  good_reply y c k f = good_put _ (record { key = k; fits = f })

  -- chare r is on a machine that is up
  module _ (r : ℕ) (u : s.status (s.job.home r) ≢ Down) where
    pub live : g.mem r ≡ s.live r
    live = g.linked.up r u

    unfoldable pub good_table : (l : List Entry) → InvP p (put_table world_now r l) → Good p (new_table s r l) x stable
    unfolding new_table
    good_table l i = record {
      mem = upd r (with_table (g.mem r) l) g.mem;
      linked = linked_memory g.linked r u (with_table (s.live r) l) (with_table (g.mem r) l) (ap (λ m. with_table m l) live) (λ c k d. refl);
      inv = i;
      silent = λ a n h. upd_ind (λ a k. k.log ≡ (s.live a).log) r (with_table (s.live r) l) s.live refl (λ a _. refl) a ∙ g.silent a n h;
    }

    unfoldable pub good_log : Sender s.job r → (l : List Logged)
        → ((c : ℕ) → Chare s.job c → s.status (s.job.home c) ≡ Down
        → keep (is_ticketed_above c (s.copy c).height) l ≡ keep (is_ticketed_above c (s.copy c).height) (s.live r).log)
        → InvP p (put_mem world_now (upd r (with_log (g.mem r) l) g.mem)) → Good p (new_log s r l) x stable
    unfolding new_log
    good_log k l same i = record {
      mem = upd r (with_log (g.mem r) l) g.mem;
      linked = linked_memory g.linked r u (with_log (s.live r) l) (with_log (g.mem r) l) (ap (λ m. with_log m l) live) same;
      inv = i;
      silent = silent_memory s g.silent r (with_log (s.live r) l) (inl k);
    }

  unfoldable pub good_notes : (m : ℕ) → s.status m ≢ Down → (l : List Note) → InvP p (put_notes world_now (upd m l s.notes)) → Good p (with_notes s (upd m l s.notes)) x stable
  good_notes m u l i = record { mem = g.mem; linked = linked_notes g.linked m u l; inv = i; silent = g.silent }
