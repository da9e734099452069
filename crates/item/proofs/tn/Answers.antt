use Rattle.std.specs.Prelude.{refl}
use Rattle.item.specs.Item.{item_of}
use Rattle.item.proofs.tn.Goals as goal

pub returns : goal.returns
returns c = unfold item_of in refl
