use Rattle.std.proofs.Common.{arith}
use Rattle.std.proofs.lemmas.Grind.{common_steps}
use Rattle.words.specs.Rows.{row, row_length}
use Rattle.words.proofs.items.Goals as goal

pub returns : goal.returns
unfolding row
returns c = grind (arith, common_steps, row_length)
