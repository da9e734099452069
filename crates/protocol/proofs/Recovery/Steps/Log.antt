-- The changes of logs keep the invariant: a pending message is logged, a logged message gets its ticket, stable messages leave.
use Rattle.std.specs.Prelude.{◌≡◌, refl, Bool, true, false, cond, ◌⊎◌, ◌≢◌, List, [], ◌∷◌, ◌++◌, ℕ, ◌+◌, ◌≤◌, eqb}
use Rattle.std.proofs.Common.{sym, ap, ◌∙◌, subst, subst₂, le_refl, le_trans, arith, eq-eqb, ne_eqb}
use Rattle.std.proofs.Math.Path.{subst₃}
use Rattle.std.proofs.Math.Logic.{inl, inr}
use mathlib.Core.List.Memᴰ
use mathlib.Core.List.Memᴰ.{head as here}
use mathlib.Core.List.Memᴰ.{tail as there}
use Rattle.std.proofs.Math.Option.{some}
use Rattle.lists.specs.Tests.{either, eq?}
use Rattle.lists.specs.Map.{upd, upd_same, upd_other, upd_ind, upd_ind₂}
use Rattle.lists.specs.Lists.{◌∈◌, All, all_snoc, keep, keep_mem, mem_keep, find, find_some, remove1, remove1_mem}
use Rattle.lists.specs.Keys.{NoDup, uniq, nodup_snoc, nodup_keep}
use Rattle.protocol.specs.declared.Message.{Message}
use Rattle.protocol.specs.declared.Logged.{Logged}
use Rattle.protocol.specs.Parts.{Memory}
use Rattle.protocol.specs.Setters.{with_log, with_sn}
use Rattle.protocol.specs.Sending.{is_local}
use Rattle.protocol.specs.Packets.{for_receiver, set_tn, ticketed}
use Rattle.protocol.specs.CrashFree.{Run}
use Rattle.protocol.proofs.Recovery.Run.Facts.{Sent, RunOk}
use Rattle.protocol.proofs.Recovery.Laws.Changes.{Key, no_key}
use Rattle.protocol.proofs.Recovery.Laws.Lookups.{tests_logged, ticketed_old, mem_ticketed, ticketed_other, nodup_ticketed, mem_removed, nodup_removed, logged_key}
use Rattle.protocol.proofs.Recovery.Invariant.World.{World, put_mem, Pending, count_all, counted, Owed, Tick, Stable, InLog}
use Rattle.protocol.proofs.Recovery.Invariant.Clauses.{Chare, Sender, Log, InvP}
use Rattle.protocol.proofs.Recovery.Invariant.Ticks.{tick_once, tick_place, stable_reached}
use Rattle.protocol.proofs.Recovery.Invariant.Senders.{inv_senders}
use Rattle.protocol.proofs.Recovery.Steps.Relog.{relog, Past, Stays, Relogged, relogged, NewLog, new_logs, new_log}

-- ---- a pending message is logged
abbrev pub to_send : ℕ → List ℕ → ℕ → ℕ → Pending
to_send a l value hops = record { sender = a; receivers = l; value = value; hops = hops }

-- a's next message to r
abbrev pub next_of : World → ℕ → ℕ → ℕ → ℕ → Message
next_of w a r value hops = record { sender = a; receiver = r; sn = (w.mem a).sn r + 1; value = value; hops = hops }

-- the memories with message m and TN t in its sender's log
abbrev pub logging : World → Message → ℕ → ℕ → Memory
logging w m t =
    upd m.sender
    (with_log (with_sn (w.mem m.sender) (upd m.receiver m.sn (w.mem m.sender).sn)) ((w.mem m.sender).log ++ (record { message = m; tn = t } ∷ [])))
    w.mem

pub owed_next : (x : Run) (a r : ℕ) (l : List ℕ) (value hops : ℕ) (f : ℕ → ℕ) → Owed x a (r ∷ l) value hops f
    → Sent x (record { sender = a; receiver = r; sn = f r + 1; value = value; hops = hops }) × Owed x a l value hops (upd r (f r + 1) f)
unfolding Owed
owed_next x a r l value hops f h = h

-- counts that the pending message has entered come to the same
pub counted_next : (a r : ℕ) (l : List ℕ) (value hops : ℕ) (f : ℕ → ℕ → ℕ) (c : ℕ)
    → counted (to_send a l value hops) c (upd a (upd r (f a r + 1) (f a)) f c) ≡ counted (to_send a (r ∷ l) value hops) c (f c)
unfolding counted count_all
counted_next a r l value hops f =
    upd_ind (λ c g. cond (eqb c a) (count_all l g) g ≡ cond (eqb c a) (count_all l (upd r (f c r + 1) (f c))) (f c)) a _ f
    (rw (eq-eqb a a refl)) (λ c d. rw (ne_eqb c a d))

pub next_grows : (r : ℕ) (f : ℕ → ℕ) (b : ℕ) → f b ≤ upd r (f r + 1) f b
next_grows r f = upd_ind (λ b k. f b ≤ k) r (f r + 1) f (omega arith) (λ b d. le_refl _)

module _ {w : World} (a r : ℕ) (l : List ℕ) (value hops : ℕ) (ok : RunOk w.job w.run) (inv : InvP (to_send a (r ∷ l) value hops) w) (t : ℕ)
    (tick : t ≢ 0 → Tick w.run w.mem r a ((w.mem a).sn r + 1) t) (local : is_local w.job a r ≡ true → t ≢ 0) where
  abbrev y : Logged
  y = record { message = next_of w a r value hops; tn = t }

  abbrev counts : ℕ → ℕ
  counts = upd r ((w.mem a).sn r + 1) (w.mem a).sn

  abbrev longer : List Logged
  longer = (w.mem a).log ++ (y ∷ [])

  -- the counts and logs of all
  abbrev sns : ℕ → ℕ → ℕ
  sns = upd a counts (λ c. (w.mem c).sn)

  abbrev logs : ℕ → List Logged
  logs = upd a longer (λ c. (w.mem c).log)

  due : Sent w.run (next_of w a r value hops) × Owed w.run a l value hops counts
  due = owed_next w.run a r l value hops (w.mem a).sn inv.images.owed

  in_longer : {b k : ℕ} → InLog (w.mem a).log b k ⊎ Stable w.run w.stable b a k → InLog longer b k ⊎ Stable w.run w.stable b a k
  in_longer (inl i) = inl (record { logged = i.logged; member = Memᴰ.append_left (y ∷ []) i.member; of_receiver = i.of_receiver; of_sn = i.of_sn })
  in_longer (inr i) = inr i

  longer_log : Log w.job w.run w.stable w.mem a longer counts
  longer_log =
      let old = (w.mem a).log in
      let g = inv.logs a inv.images.owing in
      record {
        sent = all_snoc old g.sent due.0;
        owner = all_snoc old g.owner refl;
        counted = all_snoc old (λ z i. le_trans (g.counted z i) (next_grows r (w.mem a).sn z.message.receiver)) (rw upd_same (le_refl _));
        keys = nodup_snoc logged_key old y g.keys (λ z i e.
            let u = g.counted z i in
            let p = ap (λ (k : ℕ × ℕ). (w.mem a).sn k.0) e in
            let q = ap (λ (k : ℕ × ℕ). k.1) e in
            omega arith);
        tick = all_snoc old g.tick tick;
        local = all_snoc old g.local local;
        whole = λ b k p. upd_ind (λ b n. k ≤ n → InLog longer b k ⊎ Stable w.run w.stable b a k) r ((w.mem a).sn r + 1) (w.mem a).sn
            (λ q. elim (eq? k ((w.mem a).sn r + 1)) [
              | inl e ↦ inl (record { logged = y; member = Memᴰ.append_right old (here refl); of_receiver = refl; of_sn = sym e })
              | inr d ↦ in_longer (g.whole r k p (omega arith))
            ])
            (λ b d q. in_longer (g.whole b k p q)) b;
      }

  appended : Relogged (to_send a (r ∷ l) value hops) (to_send a l value hops) w sns logs
  appended = record {
    counts = counted_next a r l value hops (λ c. (w.mem c).sn);
    owed = subst (Owed w.run a l value hops) (sym (upd_same a counts (λ c. (w.mem c).sn))) due.1;
    owing = inv.images.owing;
    owed_to = λ b i. inv.images.owed_to b (there i);
    grown = upd_ind (λ c f. (b : ℕ) → (w.mem c).sn b ≤ f b) a counts (λ c. (w.mem c).sn) (next_grows r (w.mem a).sn) (λ c d b. le_refl _);
    logs = upd_ind₂ (λ c f k. Sender w.job c → Log w.job w.run w.stable w.mem c k f) a counts _ (λ c. (w.mem c).sn) (λ c. (w.mem c).log)
        (λ k. longer_log) (λ c d k. inv.logs c k);
    stays = upd_ind (λ c k. Sender w.job c → Stays w c k) a _ (λ c. (w.mem c).log)
        (λ k b n u d i. inl (record { logged = i.logged; member = Memᴰ.append_left (y ∷ []) i.member; of_receiver = i.of_receiver; of_sn = i.of_sn; of_tn = i.of_tn }))
        (λ c d k b n u e i. inl i);
  }

  pub log_append : InvP (to_send a l value hops) (put_mem w (logging w (next_of w a r value hops) t))
  log_append = inv_senders (relogged _ _ inv appended) _ (λ c k. same c)
    where
      same : (c : ℕ) → logging w (next_of w a r value hops) t c ≡ relog w.mem sns logs c
      same = upd_ind (λ c m. m ≡ relog w.mem sns logs c) a _ w.mem
          (rw (upd_same a counts (λ c. (w.mem c).sn), upd_same a longer (λ c. (w.mem c).log)))
          (λ c d. rw (upd_other a counts (λ c. (w.mem c).sn) c d, upd_other a longer (λ c. (w.mem c).log) c d))

-- ---- a logged message gets its ticket
-- a logged message has the key (r, n), or another one
pub logged_or : (r n : ℕ) (y : Logged) → (logged_key y ≡ (r, n)) ⊎ (logged_key y ≢ (r, n))
logged_or r n y = either (for_receiver r n y) (λ e. inl ((tests_logged r n).yes_key y e)) (λ e. inr (no_key (tests_logged r n) y e))

-- what holds of every logged message, and of that of r and n with TN t, holds of the log with that ticket
pub all_ticketed : {P : Logged → Type 0} (r n t : ℕ) (l : List Logged) → All P l
    → ((y : Logged) → y ∈ l → logged_key y ≡ (r, n) → P (record { message = y.message; tn = t })) → All P (ticketed r n t l)
unfolding set_tn
all_ticketed {P} r n t l h g y i = elim (ticketed_old r n t l i) [ inl j ↦ h y j | inr (z, j, e, q) ↦ subst P (sym q) (g z j e) ]

module _ {p : Pending} {w : World} (ok : RunOk w.job w.run) (inv : InvP p w) (a r n t : ℕ) (y : Logged) (k : Sender w.job a)
    (found : find (for_receiver r n) (w.mem a).log ≡ some y) (none : y.tn ≡ 0) (some_tn : t ≢ 0) (tick : Tick w.run w.mem r a n t) where
  -- every message stays
  in_ticketed : {b m : ℕ} → InLog (w.mem a).log b m → InLog (ticketed r n t (w.mem a).log) b m
  unfolding set_tn
  in_ticketed i = elim (logged_or r n i.logged) [
    | inl e ↦ record { logged = set_tn t i.logged; member = mem_ticketed r n t (inv.logs a k).keys i.member e; of_receiver = i.of_receiver; of_sn = i.of_sn }
    | inr d ↦ record { logged = i.logged; member = ticketed_other r n t i.member d; of_receiver = i.of_receiver; of_sn = i.of_sn }
  ]

  -- a message with a TN is another one
  ticketed_stays : Stays w a (ticketed r n t (w.mem a).log)
  ticketed_stays b m u d i = elim (logged_or r n i.logged) [
    | inl e ↦
        let (j, f) = find_some (for_receiver r n) (w.mem a).log found in
        let same = uniq logged_key (inv.logs a k).keys i.member j (e ∙ sym ((tests_logged r n).yes_key y f)) in
        absurd (d (sym i.of_tn ∙ ap (λ (z : Logged). z.tn) same ∙ none))
    | inr e ↦ inl (record { logged = i.logged; member = ticketed_other r n t i.member e; of_receiver = i.of_receiver; of_sn = i.of_sn; of_tn = i.of_tn })
  ]

  ticketed_log : Log w.job w.run w.stable w.mem a (ticketed r n t (w.mem a).log) (w.mem a).sn
  ticketed_log =
      let l = (w.mem a).log in
      let g = inv.logs a k in
      record {
        sent = all_ticketed r n t l g.sent (λ z i _. g.sent z i);
        owner = all_ticketed r n t l g.owner (λ z i _. g.owner z i);
        counted = all_ticketed r n t l g.counted (λ z i _. g.counted z i);
        keys = nodup_ticketed r n t l g.keys;
        tick = all_ticketed r n t l g.tick (λ z i e _. subst (λ (k : Key). Tick w.run w.mem k.0 a k.1 t) (sym e) tick);
        local = all_ticketed r n t l g.local (λ z i _ _. some_tn);
        whole = λ b m u v. elim (g.whole b m u v) [ inl i ↦ inl (in_ticketed i) | inr i ↦ inr i ];
      }

  pub log_ticket : InvP p (put_mem w (upd a (with_log (w.mem a) (ticketed r n t (w.mem a).log)) w.mem))
  log_ticket = new_log inv a _ (ticketed_log, ticketed_stays)

-- ---- stable messages leave
-- the log l has some of a's messages, and all that are not stable
pub record Loses (w : World) (a : ℕ) (l : List Logged) : Type 0 where
  pub old : (y : Logged) → y ∈ l → y ∈ (w.mem a).log
  pub keys : NoDup logged_key l
  pub lost : (y : Logged) → y ∈ (w.mem a).log → (y ∈ l) ⊎ Stable w.run w.stable y.message.receiver a y.message.sn

module _ {p : Pending} {w : World} (ok : RunOk w.job w.run) (inv : InvP p w) where
  -- the ticket of a stable message is worked, and the copied height is past it
  stable_past : {a r n t : ℕ} → Chare w.job r → Stable w.run w.stable r a n → Tick w.run w.mem r a n t → Past w a r n t
  stable_past {r = r} k h y = subst (λ t. Past w _ r _ t) (tick_once (ok.distinct r) (inv.tables r k) h.worked y) (h.low, h.worked)

  module _ (a : ℕ) (l : List Logged) (k : Sender w.job a) (h : Loses w a l) where
    shorter_log : Log w.job w.run w.stable w.mem a l (w.mem a).sn
    shorter_log =
        let g = inv.logs a k in
        record {
          sent = λ y i. g.sent y (h.old y i);
          owner = λ y i. g.owner y (h.old y i);
          counted = λ y i. g.counted y (h.old y i);
          keys = h.keys;
          tick = λ y i. g.tick y (h.old y i);
          local = λ y i. g.local y (h.old y i);
          whole = λ b m u v. elim (g.whole b m u v) [
            | inl i ↦ elim (h.lost i.logged i.member) [
              | inl j ↦ inl (record { logged = i.logged; member = j; of_receiver = i.of_receiver; of_sn = i.of_sn })
              | inr s ↦ inr (subst₂ (λ b m. Stable w.run w.stable b a m) i.of_receiver i.of_sn s)
            ]
            | inr s ↦ inr s
          ];
        }

    shorter_stays : Stays w a l
    shorter_stays b m t d i = elim (h.lost i.logged i.member) [
      | inl j ↦ inl (record { logged = i.logged; member = j; of_receiver = i.of_receiver; of_sn = i.of_sn; of_tn = i.of_tn })
      | inr s ↦
          let g = inv.logs a k in
          let q = stable_past (inv.domain.receiver _ (g.sent i.logged i.member)) s (g.tick i.logged i.member (λ e. d (sym i.of_tn ∙ e))) in
          inr (subst₃ (λ b m t. Past w a b m t) i.of_receiver i.of_sn i.of_tn q)
    ]

    pub loses : NewLog w a l
    loses = (shorter_log, shorter_stays)

  pub log_remove : (a r n : ℕ) → Sender w.job a → Stable w.run w.stable r a n
      → InvP p (put_mem w (upd a (with_log (w.mem a) (remove1 (for_receiver r n) (w.mem a).log)) w.mem))
  log_remove a r n k s = new_log inv a _ (loses a _ k (record {
    old = λ y i. remove1_mem (for_receiver r n) (w.mem a).log i;
    keys = nodup_removed r n (w.mem a).log (inv.logs a k).keys;
    lost = λ y i. elim (logged_or r n y) [
      | inl e ↦ inr (subst (λ (k : Key). Stable w.run w.stable k.0 a k.1) (sym e) s)
      | inr d ↦ inl (mem_removed r n i d)
    ];
  }))

  pub logs_clean : (q : ℕ → Logged → Bool)
      → ((a : ℕ) → Sender w.job a → (y : Logged) → y ∈ (w.mem a).log → q a y ≡ false → (y.tn ≢ 0) × (y.tn ≤ w.stable y.message.receiver))
      → (mem : ℕ → Memory) → ((a : ℕ) → Sender w.job a → mem a ≡ with_log (w.mem a) (keep (q a) (w.mem a).log))
      → InvP p (put_mem w mem)
  logs_clean q low = new_logs inv (λ a. keep (q a) (w.mem a).log) (λ a k. loses a _ k (record {
    old = λ y i. (keep_mem (q a) (w.mem a).log i).0;
    keys = nodup_keep logged_key (q a) (w.mem a).log (inv.logs a k).keys;
    lost = λ y i. either (q a y)
        (λ e. inl (mem_keep (q a) i e))
        (λ e.
        let (u, v) = low a k y i e in
        let g = inv.logs a k in
        let r = y.message.receiver in
        let chare = inv.domain.receiver _ (g.sent y i) in
        let reached = stable_reached inv r chare in
        inr (record { tn = y.tn; low = v; worked = tick_place (inv.tables r chare) (omega arith) (g.tick y i u) }));
  }))
