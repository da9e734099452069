-- `head::is_local` meets its contract: by what `home` ensures.
use Rattle.std.proofs.Common.{ne_eqb}
use Rattle.protocol.specs.Sending.{is_local}
use Rattle.head.proofs.is_local.Goals as goal

pub returns-then-a-ne0 : goal.returns-then-a-ne0
unfolding is_local
returns-then-a-ne0 c = rw (ne_eqb _ _ c.if-a-ne0.true, c.home.ensures.is, c.home-then-a-ne0.ensures.is)

pub returns-else-a-ne0 : goal.returns-else-a-ne0
unfolding is_local
returns-else-a-ne0 c = rw c.if-a-ne0.false
