-- `shift`: nothing, less than a word, a word and more, both words.
use Rattle.std.proofs.Common.{arith, rules}
use Rattle.window.specs.{Bits.window_bits, Words.{shift_less, shift_word, shift_all}}
use Rattle.window.proofs.bits.shift.Goals as goal

pub returns-in-1-to-63 : goal.returns-in-1-to-63
unfolding window_bits
returns-in-1-to-63 c = let a = c.args in shift_less a.w.low a.w.high (search rules) a.t (omega arith)

pub returns-in-64-to-127 : goal.returns-in-64-to-127
unfolding window_bits
returns-in-64-to-127 c = let a = c.args in shift_word a.w.low a.w.high (search rules) a.t (omega arith)

pub returns-in_default : goal.returns-in_default
unfolding window_bits
returns-in_default c = let a = c.args in shift_all a.w.low a.w.high (search rules) a.t (search rules) (omega arith)
