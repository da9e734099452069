-- From the invariant to demand 3: at a quiet moment the state and the history are those of the run carried along.
use Rattle.std.specs.Prelude.{◌≡◌, ◌≢◌, ℕ, ◌≤◌, length, take}
use Rattle.std.proofs.Common.{sym, ap, ◌∙◌, subst, inl, inr}
use Rattle.std.proofs.Math.Option.{some}
use Rattle.std.proofs.Math.Seq.{take-length}
use Rattle.lists.specs.Tests.{eq?}
use Rattle.lists.specs.Lists.{◌∈◌}
use Rattle.protocol.specs.declared.Message.{Message}
use Rattle.protocol.specs.declared.Status.TheVariants.{Up, Down}
use Rattle.protocol.specs.Parts.{Memory, State}
use Rattle.protocol.specs.Crash.{is_normal}
use Rattle.protocol.specs.CrashFree.{Run}
use Rattle.protocol.specs.History.{History}
use Rattle.protocol.specs.Demand3.{Normal, Has, Agrees}
use Rattle.protocol.proofs.Recovery.Run.Fold.{folded}
use Rattle.protocol.proofs.Recovery.Run.Facts.{RunOk, unworked_sent, unworked_new}
use Rattle.protocol.proofs.Recovery.Run.Laws.{run_ok}
use Rattle.protocol.proofs.Recovery.Invariant.World.{nothing_pending, Stable}
use Rattle.protocol.proofs.Recovery.Invariant.Clauses.{Chare, Sender, InvP}
use Rattle.protocol.proofs.Recovery.Invariant.Linked.{world}
use Rattle.protocol.proofs.Recovery.Laws.Places.{place_in}
use Rattle.protocol.proofs.Recovery.Invariant.Good.{Carried}
use Rattle.protocol.proofs.Recovery.Invariant.Counts.{desk_now, chare_not_desk, image_now, full_counts, sent_logged}
use Rattle.protocol.proofs.Recovery.Laws.Status.{down_not_up, up?, neither_up}

-- no number but a machine's is ever down or catching up
pub record Ranged (s : State) : Type 0 where
  pub known : (p : ℕ) → s.status p ≢ Up → (1 ≤ p) × (p ≤ s.job.machines)
  pub six : s.job.machines ≤ 6

pub quiet_up : {s : State} → Ranged s → Normal s → (p : ℕ) → s.status p ≡ Up
unfolding is_normal
quiet_up {s} ranged quiet p = elim (up? (s.status p)) [
  | inl e ↦ e
  | inr d ↦ let (a, b) = ranged.known p d in neither_up (s.status p) (quiet p a b)
]

pub carried_ok : {s : State} {h : History} (c : Carried s h) → RunOk s.job c.run
carried_ok {s} {h} c = run_ok s.job h.injections c.works c.run c.chares c.is_run

module _ {s : State} {h : History} (c : Carried s h) (ranged : Ranged s) (quiet : Normal s) where
  abbrev x : Run
  x = c.run

  abbrev mem : ℕ → Memory
  mem = c.good.mem

  abbrev inv : InvP nothing_pending (world s c.run c.stable c.good.mem)
  inv = c.good.inv

  abbrev ok : RunOk s.job c.run
  ok = carried_ok c

  not_down : (p : ℕ) → s.status p ≢ Down
  not_down p e = down_not_up (sym e ∙ quiet_up ranged quiet p)

  same_memory : (a : ℕ) → mem a ≡ s.live a
  same_memory a = c.good.linked.up a (not_down (s.job.home a))

  -- every chare has worked all that the run has worked
  full_height : (a : ℕ) → Chare s.job a → (mem a).height ≡ length (x.worked a)
  full_height a chare = inv.heights.normal a chare (quiet_up ranged quiet (s.job.home a))

  settled_state : (a : ℕ) → Chare s.job a → (s.live a).state ≡ x.state a
  settled_state a chare =
      ap (λ (m : Memory). m.state) (sym (same_memory a))
      ∙ (image_now inv.images a chare).state
      ∙ ap (λ k. (folded s.job a (take k (x.worked a))).state) (full_height a chare)
      ∙ ap (λ l. (folded s.job a l).state) (take-length (x.worked a))
      ∙ sym (ok.states a (chare_not_desk inv.job a chare))

  chare_sequence : (a : ℕ) → Chare s.job a → h.sequence a ≡ x.worked a
  chare_sequence a chare =
      c.told.sequence a chare (not_down (s.job.home a))
      ∙ ap (λ (m : Memory). take m.height (x.worked a)) (sym (same_memory a))
      ∙ ap (λ k. take k (x.worked a)) (full_height a chare)
      ∙ take-length (x.worked a)

  pub settled_sequence : (a : ℕ) → h.sequence a ≡ c.run.worked a
  settled_sequence a = elim (eq? (s.job.home a) 0) [
    | inl e ↦ let n = c.told.nobody a e in n.0 ∙ sym n.1
    | inr chare ↦ chare_sequence a chare
  ]

  -- whoever sends has sent all that the run has sent from there
  settled_counts : (a : ℕ) → Sender s.job a → (mem a).sn ≡ x.sn a
  settled_counts a (inl e) = subst (λ a. (mem a).sn ≡ x.sn a) (sym e) (desk_now inv.images)
  settled_counts a (inr chare) = full_counts inv.images a chare inv.job ok (full_height a chare)

  -- an unworked message is not stable
  unworked_unstable : (a r n : ℕ) (m : Message) → x.unworked a r n ≡ some m → Stable x c.stable r a n → ⊥
  unworked_unstable a r n m e p =
      let w = place_in p.worked in
      unworked_new ok a r n m e w.message w.member (λ i. (w.of_sender i, w.of_sn i))

  settled_log : (a r n : ℕ) (m : Message) → x.unworked a r n ≡ some m → Has (s.live a).log m
  settled_log a r n m e =
      let (p, q, k) = ok.named a r n m e in
      let sent = unworked_sent ok a r n m e in
      let sender = subst (Sender s.job) p (inv.domain.sender m sent) in
      let log = inv.logs a sender in
      elim (sent_logged ok log (settled_counts a sender) (record { message = m; sent = sent; of_sender = p; of_receiver = q; of_sn = k })) [
        | inl y ↦ record {
          logged = y.logged;
          here = subst (λ (o : Memory). y.logged ∈ o.log) (same_memory a) y.member;
          equal = ok.one_body y.logged.message m (log.sent y.logged y.member) sent
              (log.owner y.logged y.member ∙ sym p) (y.of_receiver ∙ sym q) (y.of_sn ∙ sym k);
        }
        | inr w ↦ absurd (unworked_unstable a r n m e w)
      ]

pub agrees : (s : State) (h : History) → Carried s h → Ranged s → Normal s → Agrees s h
agrees s h c ranged quiet = record {
  works = c.works;
  run = c.run;
  is_run = c.is_run;
  states = λ a p q. settled_state c ranged quiet a (c.good.inv.job.range a p q);
  sequences = λ a _ _. settled_sequence c ranged quiet a;
  logs = settled_log c ranged quiet;
}
