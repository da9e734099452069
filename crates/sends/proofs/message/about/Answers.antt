use Rattle.std.specs.Prelude.{refl}
use Rattle.protocol.specs.Sending.{about}
use Rattle.sends.proofs.message.about.Goals as goal

pub returns : goal.returns
returns c = unfold about in refl
