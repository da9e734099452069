-- `set`: the bit goes into the low word below 64, else into the high one.
use Rattle.std.specs.Prelude.{◌≡◌, true, ◌+◌, ◌-◌}
use Rattle.std.proofs.Common.{◌∙◌, ap, arith, rules}
use Rattle.lists.specs.Map.{upd}
use Rattle.window.specs.{Bits.window_bits, Words.{set_low, set_high}}
use Rattle.window.proofs.bits.set.Goals as goal

pub returns-then-k-lt64 : goal.returns-then-k-lt64
unfolding window_bits
returns-then-k-lt64 c = let a = c.args in set_low a.w.low a.w.high (search rules) a.k c.if-k-lt64.true

pub returns-else-k-lt64 : goal.returns-else-k-lt64
unfolding window_bits
returns-else-k-lt64 c =
    let a = c.args in
    let e : 64 + (a.k - 64) ≡ a.k = omega arith in
    set_high a.w.low a.w.high (search rules) (a.k - 64) (omega arith) ∙ ap (λ k. upd k true (window_bits a.w)) e
