-- A restart, the status and the wire: the machine is catching up, and what is sent again fits.
use Rattle.std.specs.Prelude.{◌≡◌, true, false, ◌≢◌, ℕ, ◌≤◌, length}
use Rattle.std.proofs.Math.Path.{refl}
use Rattle.std.proofs.Common.{sym, ap, ◌∙◌, subst, inr, arith, le_refl}
use Rattle.std.proofs.Math.Logic.{inl}
use mathlib.Core.List.Memᴰ
use Rattle.std.proofs.lemmas.Bool.{eqb-false}
use Rattle.lists.specs.Tests.{either, eq?}
use Rattle.lists.specs.Map.{upd, upd_other, upd_ind}
use Rattle.lists.specs.Lists.{◌∈◌, All}
use Rattle.protocol.specs.declared.Logged.{Logged}
use Rattle.protocol.specs.declared.Packet.{Packet}
use Rattle.protocol.specs.declared.Content.TheVariants.{Ask as ASK, Data as DATA}
use Rattle.protocol.specs.declared.Status.{Status}
use Rattle.protocol.specs.declared.Status.TheVariants.{Up, Down, CatchingUp}
use Rattle.protocol.specs.Parts.{Job, State, on, at_home}
use Rattle.protocol.specs.Sending.{is_local, about}
use Rattle.protocol.specs.Restart.{target_of, resends}
use Rattle.protocol.specs.CrashFree.{Run}
use Rattle.protocol.proofs.Recovery.Laws.NewTicket.{target_reaches}
use Rattle.protocol.proofs.Recovery.Invariant.World.{World, Pending, put_status, SentKey, HasTicket}
use Rattle.protocol.proofs.Recovery.Invariant.Clauses.{Chare, Log, PacketOk, InvP}
use Rattle.protocol.proofs.Recovery.Invariant.Linked.{world}
use Rattle.protocol.proofs.Recovery.Invariant.Silent.{Silent}
use Rattle.protocol.proofs.Recovery.Laws.AtHome.{at_home_on}
use Rattle.protocol.proofs.Recovery.Invariant.Later.{Later, wire_later}
use Rattle.protocol.proofs.Recovery.Laws.Resends.{Cause, ask_here, data_here, ask_elsewhere, resends_mem}
use Rattle.protocol.proofs.Recovery.Laws.Status.{down_not_up, catching_up_not_up, down_not_catching_up}
use Rattle.protocol.proofs.Recovery.Invariant.Homes.{local_home, on_home}

-- ---- a machine that is down begins to catch up
module _ {p : Pending} {w : World} (inv : InvP p w) (q : ℕ) (down : w.status q ≡ Down) where
  abbrev status' : ℕ → Status
  status' = upd q CatchingUp w.status

  abbrev target' : ℕ → ℕ
  target' = at_home w.job q (λ c t. target_of (w.mem c)) w.target

  -- it is the only one that is not normal, before and after
  only : (r : ℕ) → w.status r ≢ Up → r ≡ q
  only r d = inv.machines.one r q d (λ u. down_not_up (sym down ∙ u))

  still_only : (r : ℕ) → status' r ≢ Up → r ≡ q
  still_only = upd_ind (λ r v. v ≢ Up → r ≡ q) q CatchingUp w.status (λ _. refl) (λ r _. only r)

  pub none_down : (r : ℕ) → upd q CatchingUp w.status r ≢ Down
  none_down = upd_ind (λ r v. v ≢ Down) q CatchingUp w.status
      (λ e. down_not_catching_up (sym e))
      (λ r d e. d (only r (λ u. down_not_up (sym e ∙ u))))

  was_up : (r : ℕ) → status' r ≡ Up → w.status r ≡ Up
  was_up = upd_ind (λ r v. v ≡ Up → w.status r ≡ Up) q CatchingUp w.status (λ e. absurd (catching_up_not_up e)) (λ r _ e. e)

  -- the table has every TN that the run has worked above the copied height, so the target is not below them
  reaches : (c : ℕ) → Chare w.job c → w.job.home c ≡ q → length (w.run.worked c) ≤ target' c
  reaches c chare h =
      let e = inv.heights.down c chare (ap w.status h ∙ down) in
      subst (length (w.run.worked c) ≤◌) (sym (at_home_on w.job q (λ c t. target_of (w.mem c)) w.target c h))
      (target_reaches (w.mem c) (length (w.run.worked c)) (λ t a b. (inv.tables c chare).complete t (omega arith) b))

  later : Later w (put_status w status' target')
  later = record {
    job = refl;
    sent = λ m i. i;
    stable = λ r s n i. i;
    tick = λ r s n t i. i;
    up = λ r _. none_down r;
    counts = λ s r. le_refl _;
    backed = λ s r n k e b u. b (was_up _ u);
    acked = λ s r n k e c a. a;
  }

  pub catch_up : InvP p (put_status w (upd q CatchingUp w.status) (at_home w.job q (λ c t. target_of (w.mem c)) w.target))
  catch_up = record {
    job = inv.job;
    domain = inv.domain;
    machines = record {
      desk = upd_other q CatchingUp w.status 0 (λ e. down_not_up (sym down ∙ ap w.status (sym e) ∙ inv.machines.desk)) ∙ inv.machines.desk;
      one = λ r t a b. still_only r a ∙ sym (still_only t b);
      covered = λ r e. absurd (none_down r e);
    };
    images = inv.images;
    heights = record {
      normal = λ c chare u. inv.heights.normal c chare (was_up _ u);
      catching_up = λ c chare u.
          let a = reaches c chare (still_only (w.job.home c) (λ e. catching_up_not_up (sym u ∙ e))) in
          omega arith;
      down = λ c chare u. absurd (none_down _ u);
      above_stable = inv.heights.above_stable;
      copied = inv.heights.copied;
    };
    tables = inv.tables;
    ordered = inv.ordered;
    remembered = λ c chare e i o l u. inv.remembered c chare e i o l (was_up _ u);
    noted = inv.noted;
    logs = inv.logs;
    copies = inv.copies;
    notes = inv.notes;
    wire = wire_later later w.wire inv.wire;
  }

-- ---- what is sent again
-- one is on machine p and the other is not
apart : (j : Job) (p a b : ℕ) → on j p a ≡ true → on j p b ≡ false → j.home a ≢ j.home b
unfolding on
apart j p a b e f h = eqb-false (j.home b) p f (sym h ∙ on_home j p a e)

apart_remote : (j : Job) (a b : ℕ) → j.home a ≢ j.home b → is_local j a b ≡ false
apart_remote j a b d = either (is_local j a b) (λ e. absurd (d (local_home j a b e))) (λ e. e)

module _ {p : Pending} (s : State) {x : Run} {stable : ℕ → ℕ} (inv : InvP p (world s x stable s.live)) (silent : Silent s) (q : ℕ) where
  -- a message in the log of a
  module _ (a : ℕ) (y : Logged) (i : y ∈ (s.live a).log) where
    log : Log s.job x stable s.live a (s.live a).log (s.live a).sn
    log = inv.logs a (elim (eq? a 0) [
      | inl e ↦ inl e
      | inr d ↦ inr (λ e. Memᴰ.not-nil (subst (y ∈◌) (silent a d e) i))
    ])

    key : SentKey x y.message.sender y.message.receiver y.message.sn
    key = record { message = y.message; sent = log.sent y i; of_sender = refl; of_receiver = refl; of_sn = refl }

    remote : s.job.home a ≢ s.job.home y.message.receiver → is_local s.job y.message.sender y.message.receiver ≡ false
    remote d = subst (λ b. is_local s.job b y.message.receiver ≡ false) (sym (log.owner y i)) (apart_remote s.job a y.message.receiver d)

    asked : s.job.home a ≢ s.job.home y.message.receiver → PacketOk (world s x stable s.live) (about y.message ASK)
    unfolding about
    asked d = record { key = key; fits = remote d }

    carried : s.job.home a ≢ s.job.home y.message.receiver → y.tn ≢ 0
        → PacketOk (world s x stable s.live) (about y.message (DATA y.message.value y.message.hops))
    unfolding about
    carried d t = record {
      key = key;
      fits = (
        remote d,
        log.sent y i,
        λ _. inl (subst (λ b. HasTicket (s.live b).log y.message.receiver y.message.sn) (sym (log.owner y i)) (record {
          tn = y.tn;
          some_tn = t;
          found = record { logged = y; member = i; of_receiver = refl; of_sn = refl; of_tn = refl };
        })),
      );
    }

    caused : {k : Packet} → Cause s q a y k → PacketOk (world s x stable s.live) k
    caused (ask_here e f t z) = subst (PacketOk (world s x stable s.live)) (sym z) (asked (λ h. apart s.job q y.message.receiver a f e (sym h)))
    caused (data_here e f t z) = subst (PacketOk (world s x stable s.live)) (sym z) (carried (λ h. apart s.job q y.message.receiver a f e (sym h)) (λ u. omega arith))
    caused (ask_elsewhere e f t z) = subst (PacketOk (world s x stable s.live)) (sym z) (asked (apart s.job q a y.message.receiver e f))

  pub resends_fit : All (PacketOk (world s x stable s.live)) (resends s q)
  resends_fit k i = let r = resends_mem s q i in caused r.place r.logged r.member r.cause
