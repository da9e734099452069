use Rattle.item.specs.Item.{clipped}
use Rattle.notelist.specs.Notes.{packed}
use Rattle.notelist.proofs.pack.Goals as goal

pub returns : goal.returns
unfolding packed clipped
returns c = rw c.pack.ensures
