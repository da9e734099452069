-- `run`: the low word's run, and the high one's behind it where the low word is all ones.
use Rattle.std.proofs.Common.{arith, rules}
use Rattle.window.specs.{Bits.window_bits, Words.{word_run_top, run_stops, run_goes_on}}
use Rattle.window.proofs.bits.run.Goals as goal

pub returns-in-64 : goal.returns-in-64
unfolding window_bits
returns-in-64 c = let a = c.args in run_goes_on a.w.low a.w.high (search rules) (search rules) (omega arith)

pub returns-in_default : goal.returns-in_default
unfolding window_bits
returns-in_default c = let a = c.args in run_stops a.w.low a.w.high (search rules) (omega (arith, word_run_top a.w.low))
