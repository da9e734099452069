use Rattle.std.specs.Prelude.{refl}
use Rattle.std.proofs.Common.{arith, rules}
use Rattle.item.specs.Item.{clipped, word_says}
use Rattle.item.proofs.pack.Goals as goal

pub returns : goal.returns
returns c =
    unfold clipped in word_says _ _ _ _ _ _ _ _ _ refl (search rules) (omega arith) (omega arith) (omega arith) (search rules) (search rules) (omega arith) (omega arith)
