-- `look`: at or below the mark, beyond the window, or by the bit.
use Rattle.std.proofs.Common.{sym, ◌∙◌, arith}
use Rattle.protocol.proofs.Recovery.Laws.Look.{look_low, look_bit, look_far}
use Rattle.window.specs.Bits.{window_bits}
use Rattle.window.proofs.look.Goals as goal

pub returns-then-n-mark : goal.returns-then-n-mark
returns-then-n-mark c = let a = c.args in sym (look_low a.mark (window_bits a.w) a.n c.if-n-mark.true)

pub returns-then-k-ge-WIDTH : goal.returns-then-k-ge-WIDTH
returns-then-k-ge-WIDTH c = let a = c.args in sym (look_far a.mark (window_bits a.w) a.n (omega arith))

pub returns-then-bit : goal.returns-then-bit
returns-then-bit c =
    let a = c.args in
    sym (look_bit a.mark (window_bits a.w) a.n (omega arith) (omega arith) ∙ rw (sym c.bit.ensures ∙ c.if-bit.true))

pub returns-else-bit : goal.returns-else-bit
returns-else-bit c =
    let a = c.args in
    sym (look_bit a.mark (window_bits a.w) a.n (omega arith) (omega arith) ∙ rw (sym c.bit.ensures ∙ c.if-bit.false))
