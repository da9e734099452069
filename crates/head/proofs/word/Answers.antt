-- `head::word` meets its contract: a word of the part, or past its end.
use Rattle.std.proofs.Common.{arith}
use Rattle.std.proofs.lemmas.Grind.{common_steps}
use Rattle.arrays.specs.ArrayMap.{as_map}
use Rattle.head.proofs.word.Goals as goal

pub returns : goal.returns
unfolding as_map
returns c = grind (arith, common_steps)
