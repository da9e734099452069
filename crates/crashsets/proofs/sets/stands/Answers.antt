-- `stands`: bit p - 1 of the word.
use Rattle.std.specs.Prelude.{◌-◌, ◌/◌, ◌^◌}
use Rattle.window.specs.Bits.{bits}
use lib.Bits.{and_mask}
use Rattle.crashsets.proofs.sets.stands.Goals as goal

pub returns : goal.returns
unfolding bits
returns c = let a = c.args in rw (and_mask (a.set / 2 ^ (a.p - 1)) 1)
