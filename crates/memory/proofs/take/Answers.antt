use Rattle.std.specs.Prelude.{refl}
use Rattle.std.proofs.Common.{rules}
use Rattle.memory.specs.Numbers.{taken}
use Rattle.memory.proofs.take.Goals as goal

pub returns : goal.returns
returns c = unfold taken in refl
