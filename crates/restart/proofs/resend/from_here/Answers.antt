-- `from_here` meets its contract, with a TN and without.
use Rattle.std.specs.Prelude.{eqb}
use Rattle.lists.specs.Tests.{either}
use Rattle.protocol.specs.Restart.{from_here}
use Rattle.restart.specs.Resends.{packets_of}
use Rattle.restart.proofs.resend.from_here.Goals as goal

pub returns : goal.returns
unfolding from_here packets_of
returns c = rw c.then_some.ensures (either (eqb c.args.x.tn 0) (λ e. rw e) (λ e. rw e))
