-- The rotation by 5: two shifts make it, and its bits move round.
use Rattle.std.specs.Prelude.{bit_or, ◌≡◌, ℕ, ◌+◌, ◌-◌, ◌*◌, ◌/◌, ◌%◌, ◌^◌, ◌<◌}
use Rattle.lists.specs.Tests.{lt?}
use Rattle.protocol.specs.Work.{rotate}
use Rattle.window.specs.{Bits.bits, BitLaws.{low_bits, high_bits}}
use Rattle.std.proofs.lemmas.Nat.{or_shifted}
use Rattle.std.proofs.Math.Pow.{high, low}
use Rattle.std.proofs.Common.{shr_lt, sym, ◌∙◌, inl, inr, arith}

-- the 27 low bits move up by 5, the 5 high ones come round to the places left empty
rotated : (x : ℕ) → rotate x ≡ x % 2 ^ 27 * 2 ^ 5 + x / 2 ^ 27
unfolding rotate
rotated x = omega arith

module _ (x : ℕ) (small : x < 2 ^ 32) where
  come_round : x / 2 ^ 27 < 2 ^ 5
  come_round = shr_lt 5 27 small

  -- no bit is in both shifts, so "or" is the sum
  pub rotate_by_shifts : bit_or (x * 2 ^ 5 % 2 ^ 32) (x / 2 ^ 27) ≡ rotate x
  rotate_by_shifts =
      let e : x * 2 ^ 5 % 2 ^ 32 ≡ x % 2 ^ 27 * 2 ^ 5 = omega arith in
      rw (e, rotated) (or_shifted (x % 2 ^ 27) 5 (x / 2 ^ 27) come_round)

-- ---- for the board
-- Bit i of the rotated state is bit (i + 27) mod 32 of the state.
pub rotated_bit : (x i : ℕ) → x < 2 ^ 32 → i < 32 → bits (rotate x) i ≡ bits x ((i + 27) % 32)
rotated_bit x i h g = elim (lt? i 5) [
  | inl l ↦
      let e : (i + 27) % 32 ≡ 27 + i = omega arith in
      let r : rotate x % 2 ^ 5 ≡ x / 2 ^ 27 = rw rotated (low (x % 2 ^ 27) 5 (come_round x h)) in
      rw e (sym (low_bits (rotate x) 5 i l) ∙ rw r (high_bits x 27 i))
  | inr l ↦
      let e : (i + 27) % 32 ≡ i - 5 = omega arith in
      let r : rotate x / 2 ^ 5 ≡ x % 2 ^ 27 = rw rotated (high (x % 2 ^ 27) 5 (come_round x h)) in
      let q : 5 + (i - 5) ≡ i = omega arith in
      rw e (rw q at (sym (high_bits (rotate x) 5 (i - 5))) ∙ rw r (low_bits x 27 (i - 5) (omega arith)))
]
