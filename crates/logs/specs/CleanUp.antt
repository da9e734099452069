-- The clean-up of a log at a checkpoint: its test, against the rule book's and by the limits in hand.
use Rattle.std.specs.Prelude.{◌≡◌, refl, true, cond, ℕ, eqb, leb}
use Rattle.std.proofs.Common.{inl, inr, arith, le-ltb, lt-ltb, le-leb, ne_eqb}
use Rattle.std.proofs.lemmas.Bool.{lt-leb}
use Rattle.std.proofs.Math.Path.{fun_ext}
use Rattle.lists.specs.Tests.{either, lt?}
use Rattle.protocol.specs.{declared.Logged.Logged, Parts.{State, on}, Checkpoint.stays_in_log}
use Rattle.logs.specs.Log.{is_kept}

module _ (limit : ℕ → ℕ) (x : Logged) where
  -- by no limit
  pub kept_unlimited : limit x.message.receiver ≡ 0 → true ≡ is_kept limit x
  unfolding is_kept
  kept_unlimited e = rw (e, le-ltb x.tn 0 (omega arith)) (either (eqb x.tn 0) (λ q. rw q) (λ q. rw q))

  -- without a TN
  pub kept_waiting : x.tn ≡ 0 → eqb x.tn 0 ≡ is_kept limit x
  unfolding is_kept
  kept_waiting e = rw e

  -- with one
  pub kept_ticketed : (x.tn ≡ 0 → ⊥) → leb (limit x.message.receiver) x.tn ≡ is_kept limit x
  unfolding is_kept
  kept_ticketed d = rw (ne_eqb x.tn 0 d) (elim (lt? x.tn (limit x.message.receiver)) [
    | inl h ↦ rw (lt-ltb x.tn (limit x.message.receiver) h, lt-leb (limit x.message.receiver) x.tn h)
    | inr h ↦ rw (le-ltb x.tn (limit x.message.receiver) h, le-leb (limit x.message.receiver) x.tn h)
  ])

-- the limits of a checkpoint of p: the heights of its chares, and none for others
unfoldable pub heights_on : State → ℕ → ℕ → ℕ
heights_on s p r = cond (on s.job p r) (s.live r).height 0

pub stays_is_kept : (s : State) (p : ℕ) → stays_in_log s p ≡ is_kept (heights_on s p)
unfolding stays_in_log is_kept heights_on
stays_is_kept s p = fun_ext (λ x. either (on s.job p x.message.receiver) (λ e. rw e) (λ e. rw e (kept_unlimited (λ _. 0) x refl)))
