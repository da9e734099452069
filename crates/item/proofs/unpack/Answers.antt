use Rattle.item.specs.Item.{item_of}
use Rattle.item.proofs.unpack.Goals as goal

pub returns : goal.returns
unfolding item_of
returns c = rw c.tn.ensures
