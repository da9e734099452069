use Rattle.std.specs.Prelude.{refl}
use Rattle.sends.specs.Plan.{idle}
use Rattle.sends.proofs.plan.idle.Goals as goal

pub returns : goal.returns
unfolding idle
returns c = refl
