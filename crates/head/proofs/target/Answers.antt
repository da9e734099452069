-- `head::target` meets its contract: a word of the view.
use Rattle.head.specs.Head.{target_of}
use Rattle.head.proofs.target.Goals as goal

pub returns : goal.returns
unfolding target_of
returns c = c.word.ensures
