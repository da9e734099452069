use Rattle.std.proofs.Common.{rules}
use Rattle.words.specs.{Becomes.{becomes_as}, Sift.{map_same}}
use Rattle.item.specs.Item.{items}
use Rattle.item.proofs.retain.Goals as goal

pub returns : goal.returns
returns g c stays says = becomes_as items (c.sift.ensures stays (λ x. x) (λ w o h p. search (rules, says))) (map_same _)
