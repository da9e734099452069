-- `head::on` meets its contract: by what `home` ensures.
use Rattle.protocol.specs.Parts.{on}
use Rattle.head.proofs.on.Goals as goal

pub returns : goal.returns
unfolding on
returns c = rw c.home.ensures.is
