-- A crash with cover, the parts after it, and the tickets: those that logs, copies and notes still know are tickets after it.
use Rattle.std.specs.Prelude.{◌≡◌, refl, Bool, true, false, cond, not, ◌&&◌, ◌⊎◌, ◌≢◌, List, [], ℕ, ◌<◌}
use Rattle.std.proofs.Common.{sym, ap, ◌∙◌, subst, inl, inr, arith}
use mathlib.Core.List.Memᴰ
use borrow.Author.Tests.{ne_eqb}
use Rattle.lists.specs.Tests.{either, eq?, lt?, and_l, and_r, true_not_false}
use Rattle.lists.specs.Map.{upd, upd_same, upd_other}
use Rattle.lists.specs.Lists.{◌∈◌}
use Rattle.protocol.specs.declared.Logged.{Logged}
use Rattle.protocol.specs.declared.Note.{Note}
use Rattle.protocol.specs.declared.Status.{Status}
use Rattle.protocol.specs.declared.Status.TheVariants.{Up, Down}
use Rattle.protocol.specs.Parts.{Memory, State, blank, at_home}
use Rattle.protocol.specs.Setters.{with_table}
use Rattle.protocol.specs.Crash.{kept_by}
use Rattle.protocol.specs.Restart.{restored_table}
use Rattle.protocol.specs.CrashFree.{Run}
use Rattle.protocol.proofs.Recovery.Invariant.World.{Place, HasEntry, Tick, Kept}
use Rattle.protocol.proofs.Recovery.Invariant.Clauses.{Chare, Log, Logs, Notes}
use Rattle.protocol.proofs.Recovery.Laws.AtHome.{at_home_on, at_home_off}
use Rattle.protocol.proofs.Recovery.Invariant.Ticks.{tick_place, stable_reached}
use Rattle.protocol.proofs.Recovery.Invariant.Counts.{chare_not_desk}
use Rattle.protocol.proofs.Recovery.Laws.Restored.{Source, by_copy, by_note}
use Rattle.protocol.proofs.Recovery.Steps.CrashTables.{Covered, here_chare, here_held, here_height, source_entered, logged_source}
use Rattle.protocol.proofs.Recovery.Laws.Status.{down_not_up}
use Rattle.protocol.proofs.Recovery.Invariant.Homes.{home_local}

-- ---- the parts after the crash of q
module _ (s : State) (q : ℕ) where
  abbrev pub status_after : ℕ → Status
  status_after = upd q Down s.status

  -- the live memories elsewhere, and on q what a restart would put back
  abbrev pub memory_after : ℕ → Memory
  memory_after = at_home s.job q (λ c m. with_table (s.copy c) (restored_table s q c)) s.live

  abbrev pub held_after : ℕ → Bool
  held_after p = s.held p && not (kept_by s.job q p)

  abbrev pub copy_after : ℕ → Memory
  copy_after c = cond (kept_by s.job q (s.job.home c)) blank (s.copy c)

  abbrev pub notes_after : ℕ → List Note
  notes_after p = cond (kept_by s.job q p) [] (s.notes p)

  pub memory_here : (c : ℕ) → s.job.home c ≡ q → memory_after c ≡ with_table (s.copy c) (restored_table s q c)
  memory_here c h = at_home_on s.job q (λ c m. with_table (s.copy c) (restored_table s q c)) s.live c h

  pub memory_elsewhere : (c : ℕ) → s.job.home c ≢ q → memory_after c ≡ s.live c
  memory_elsewhere c d = at_home_off s.job q (λ c m. with_table (s.copy c) (restored_table s q c)) s.live c d

  -- ---- copies and notes that are still held are as they were
  pub still_held : (p : ℕ) → held_after p ≡ true → s.held p ≡ true
  still_held p e = and_l (s.held p) _ e

  kept_elsewhere : (p : ℕ) → held_after p ≡ true → kept_by s.job q p ≡ false
  kept_elsewhere p e = either (kept_by s.job q p) (λ f. true_not_false (and_r (s.held p) _ e) (ap not f)) (λ f. f)

  pub copy_still : (c : ℕ) → held_after (s.job.home c) ≡ true → copy_after c ≡ s.copy c
  copy_still c e = rw (kept_elsewhere (s.job.home c) e)

  pub notes_still : (p : ℕ) → held_after p ≡ true → notes_after p ≡ s.notes p
  notes_still p e = rw (kept_elsewhere p e)

  pub notes_were : (p : ℕ) {y : Note} → y ∈ notes_after p → y ∈ s.notes p
  notes_were p i = either (kept_by s.job q p) (λ e. absurd (Memᴰ.not-nil (rw e at i))) (λ e. rw e at i)

  pub kept_still : (r a n t : ℕ) → held_after (s.job.home r) ≡ true → Kept s.job s.copy s.notes r a n t → Kept s.job copy_after notes_after r a n t
  kept_still r a n t e k = rw (kept_elsewhere (s.job.home r) e) k

module _ {s : State} {x : Run} {stable : ℕ → ℕ} {q : ℕ} (b : Covered s x stable q) where
  -- ---- q is down, and no other machine
  pub elsewhere_up : (p : ℕ) → p ≢ q → status_after s q p ≡ Up
  elsewhere_up p d = upd_other q Down s.status p d ∙ b.normal p

  pub here_down : (p : ℕ) → p ≡ q → status_after s q p ≡ Down
  here_down p e = ap (status_after s q) e ∙ upd_same q Down s.status

  pub up_elsewhere : (p : ℕ) → status_after s q p ≡ Up → p ≢ q
  up_elsewhere p u e = down_not_up (sym (here_down p e) ∙ u)

  pub not_up_here : (p : ℕ) → status_after s q p ≢ Up → p ≡ q
  not_up_here p d = elim (eq? p q) [ inl e ↦ e | inr k ↦ absurd (d (elsewhere_up p k)) ]

  pub down_here : (p : ℕ) → status_after s q p ≡ Down → p ≡ q
  down_here p e = not_up_here p (λ u. down_not_up (sym e ∙ u))

  -- the copy of q is still held: its buddy is another machine
  pub held_here : held_after s q q ≡ true
  unfolding kept_by
  held_here = rw (b.held, ne_eqb (s.job.buddy q) q (b.inv.job.buddies q b.machine))

  -- ---- tickets
  pub tick_elsewhere : {r a n t : ℕ} → s.job.home r ≢ q → Tick x s.live r a n t → Tick x (memory_after s q) r a n t
  tick_elsewhere {r} {a} {n} {t} d y = subst (λ m. Place (x.worked r) t a n ⊎ HasEntry m.table a n t) (sym (memory_elsewhere s q r d)) y

  -- at a chare of q those at or below the stable height were worked, and those above it are found again, if they have a source
  pub tick_after : {r a n t : ℕ} → (s.job.home r ≡ q → stable r < t → Source s q r a n t) → Tick x s.live r a n t → Tick x (memory_after s q) r a n t
  tick_after {r} {a} {n} {t} source y = elim (eq? (s.job.home r) q) [
    | inl h ↦ elim (lt? (stable r) t) [
      | inl k ↦ inr (subst (λ m. HasEntry m.table a n t) (sym (memory_here s q r h)) (source_entered b h (source h k)))
      | inr k ↦
          let chare = here_chare b r h in
          let u = stable_reached b.inv r chare in
          inl (tick_place (b.inv.tables r chare) (omega arith) y)
    ]
    | inr d ↦ tick_elsewhere d y
  ]

  pub notes_tick : Notes s.job x (memory_after s q) (notes_after s q)
  notes_tick p y i =
      let (l, chare, home, t) = b.inv.notes p y (notes_were s q p i) in (
        l,
        chare,
        home,
        tick_after (λ h k.
            let e = here_height b y.receiver h in
            by_note (record {
              note = y;
              member = subst (λ p. y ∈ s.notes p) (sym home ∙ h) (notes_were s q p i);
              of_receiver = refl;
              of_sender = refl;
              of_sn = refl;
              of_tn = refl;
              above = omega arith;
            }))
            t,
      )

  -- ---- logs
  log_after : {a : ℕ} {l : List Logged} {f : ℕ → ℕ} → Log s.job x stable s.live a l f
      → ((y : Logged) → y ∈ l → y.tn ≢ 0 → s.job.home y.message.receiver ≡ q → stable y.message.receiver < y.tn → Source s q y.message.receiver a y.message.sn y.tn)
      → Log s.job x stable (memory_after s q) a l f
  log_after g source = record {
    sent = g.sent;
    owner = g.owner;
    counted = g.counted;
    keys = g.keys;
    tick = λ y i d. tick_after (source y i d) (g.tick y i d);
    local = g.local;
    whole = g.whole;
  }

  live_log : (a : ℕ) → Log s.job x stable s.live a (s.live a).log (s.live a).sn → s.job.home a ≢ q → Log s.job x stable (memory_after s q) a (s.live a).log (s.live a).sn
  live_log a g d = log_after g (λ y i _ h k. logged_source b h d k (record { logged = y; member = i; of_receiver = refl; of_sn = refl; of_tn = refl }))

  -- of a held copy: its messages to chares of q are local, or the live log has them
  pub copy_log : (c : ℕ) → Chare s.job c → s.held (s.job.home c) ≡ true → Log s.job x stable (memory_after s q) c (s.copy c).log (s.copy c).sn
  copy_log c chare held =
      let g = b.inv.copies c chare held in
      log_after g.log (λ y i d h k. elim (eq? (s.job.home c) q) [
        | inl e ↦
            let r = y.message.receiver in
            let f = here_height b r h in
            let z = g.local y i (home_local s.job c r (chare_not_desk b.inv.job c chare) (e ∙ sym h)) (omega arith) in
            by_copy (record { ticket = z.entry; member = z.member; of_sender = z.of_sender; of_sn = z.of_sn; of_tn = z.of_tn })
        | inr e ↦ elim (g.kept y i d) [ inl z ↦ logged_source b h e k z | inr z ↦ let v = z.0 in absurd (omega arith) ]
      ])

  pub logs_after : Logs s.job x stable (memory_after s q)
  logs_after a sender = elim (eq? (s.job.home a) q) [
    | inl h ↦ subst (λ m. Log s.job x stable (memory_after s q) a m.log m.sn) (sym (memory_here s q a h)) (copy_log a (here_chare b a h) (here_held b a h))
    | inr d ↦ subst (λ m. Log s.job x stable (memory_after s q) a m.log m.sn) (sym (memory_elsewhere s q a d)) (live_log a (b.inv.logs a sender) d)
  ]
