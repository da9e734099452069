-- `bit`: that of the low word below 64, else that of the high one.
use Rattle.std.specs.Prelude.{◌≡◌, ◌+◌, ◌-◌, ◌/◌, ◌^◌}
use Rattle.std.proofs.Common.{◌∙◌, ap, arith, rules}
use Rattle.window.specs.{Bits.{bits, window_bits}, Words.{bit_low, bits_high}}
use lib.Bits.{and_mask}
use Rattle.window.proofs.bits.bit.Goals as goal

pub returns-then-k-lt64 : goal.returns-then-k-lt64
unfolding window_bits bits
returns-then-k-lt64 c =
    let a = c.args in rw (and_mask (a.w.low / 2 ^ a.k) 1) (bit_low a.w.low a.w.high (search rules) a.k c.if-k-lt64.true)

pub returns-else-k-lt64 : goal.returns-else-k-lt64
unfolding window_bits bits
returns-else-k-lt64 c =
    let a = c.args in
    let e : 64 + (a.k - 64) ≡ a.k = omega arith in
    rw (and_mask (a.w.high / 2 ^ (a.k - 64)) 1) (ap (λ f. f (a.k - 64)) (bits_high a.w.low a.w.high (search rules)) ∙ ap (λ i. window_bits a.w i) e)
