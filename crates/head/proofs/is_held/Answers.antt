-- `head::is_held` meets its contract: a word of the view.
use Rattle.head.specs.Head.{held_of}
use Rattle.head.proofs.is_held.Goals as goal

pub returns : goal.returns
unfolding held_of
returns c = rw c.word.ensures
