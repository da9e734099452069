-- When machine p is done catching up: what the code finds, against the definitions.
use Rattle.std.specs.Prelude.{◌≡◌, ◌≢◌, refl, Bool, true, false, not, ◌||◌, List, ℕ, ◌<◌, ◌≤◌, leb}
use Rattle.std.proofs.Common.{sym, ◌∙◌, arith, le-leb}
use Rattle.std.proofs.lemmas.Bool.{lt-leb}
use Rattle.lists.specs.{Lists.allb, Counting.counting}
use Rattle.arrays.specs.Loops.{allb_keep, all_pass, one_fails}
use Rattle.protocol.specs.{declared.Status.Status, declared.Status.TheVariants.{Up, Down, CatchingUp}, Parts.{State, on, every_chare, is_catching_up}, Restart.{has_caught_up, is_done}}
use Rattle.words.specs.Part.{part}
use Rattle.head.specs.Head.{status_of, target_of}
use Rattle.logs.specs.Log.{has_ticket, entries}
use Rattle.memory.specs.{Places.{LOG, ROW, MEMORY}, View.{memory_view, log_part}}
use Rattle.store.specs.{Places.live_from, View.view, ViewLaws.live_at}

-- chare c is none of machine p's, or has caught up
unfoldable pub passes : State → ℕ → ℕ → Bool
passes s p c = not (on s.job p c) || has_caught_up s c

module _ (xs : List ℕ) (c : ℕ) (h : c < 13) (height target : ℕ) (is-height : height ≡ (memory_view (part (live_from c) MEMORY xs)).height) (is-target : target ≡ target_of xs c) where
  pub behind : height < target → leb target height ≡ has_caught_up (view xs) c
  unfolding has_caught_up view
  behind g = rw (live_at xs c h, ← is-height, ← is-target, lt-leb target height g)

  pub there : target ≤ height → allb has_ticket (entries (part LOG ROW (part (live_from c) MEMORY xs))) ≡ has_caught_up (view xs) c
  unfolding has_caught_up view
  there g = rw (live_at xs c h, ← is-height, ← is-target, le-leb target height g, log_part)

module _ (xs : List ℕ) (p : ℕ) where
  pub busy : status_of xs p ≢ CatchingUp → false ≡ is_done (view xs) p
  unfolding is_done is_catching_up view
  busy = go (status_of xs p) refl
    where
      go : (s : Status) → status_of xs p ≡ s → s ≢ CatchingUp → false ≡ is_done (view xs) p
      go Up e d = rw e
      go Down e d = rw e
      go CatchingUp e d = absurd (d refl)

  module _ (e : status_of xs p ≡ CatchingUp) where
    by_chares : allb (passes (view xs) p) (counting 12 1) ≡ is_done (view xs) p
    unfolding is_done is_catching_up view passes every_chare counting allb
    by_chares = rw e (sym (allb_keep (has_caught_up (view xs)) (on (view xs).job p) every_chare))

    pub all_done : ((c : ℕ) → 1 ≤ c → c ≤ 12 → passes (view xs) p c ≡ true) → true ≡ is_done (view xs) p
    all_done h = sym (all_pass (passes (view xs) p) 12 1 (λ c l r. h c l (omega arith))) ∙ by_chares

    pub one_left : (c : ℕ) × (1 ≤ c) × (c ≤ 12) × (passes (view xs) p c ≡ false) → false ≡ is_done (view xs) p
    one_left (c, l, r, f) = sym (one_fails (passes (view xs) p) 12 1 c l (omega arith) f) ∙ by_chares
