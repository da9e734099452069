-- The machines settle, one after the other: those from p up to e, e itself left out, are still to settle.
use Rattle.std.specs.Prelude.{◌≡◌, ℕ, ◌+◌, ◌-◌, ◌<◌, ◌≤◌}
use Rattle.std.proofs.Common.{sym, ◌∙◌}
use Rattle.lists.specs.Counting.{counting, counting_next, counting_past}
use Rattle.protocol.specs.{Parts.State, Restart.{settle_machine, settle_all, settle}}

module _ (s : State) (e p : ℕ) (t : State) (inv : settle s ≡ settle_all t (counting (e - p) p)) where
  pub settle_more : p < e → (u : State) → u ≡ settle_machine t p → settle s ≡ settle_all u (counting (e - (p + 1)) (p + 1))
  unfolding settle_all
  settle_more h u q = inv ∙ rw (counting_next e p h, q)

  pub settle_end : e ≤ p → t ≡ settle s
  unfolding settle_all
  settle_end h = sym (inv ∙ rw (counting_past e p h))
