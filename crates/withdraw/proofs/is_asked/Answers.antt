-- `is_asked`: a packet, or none.
use Rattle.std.specs.Prelude.{◌≡◌, refl, Option, None, Some}
use Rattle.std.specs.Option.{is_some}
use Rattle.std.proofs.Common.{ap, ◌∙◌}
use Rattle.protocol.specs.Questions.{is_there}
use Rattle.packets.specs.{declared.Found.Found, View.{found, sought_packet}}
use Rattle.withdraw.proofs.is_asked.Goals as goal

there : (f : Option Found) → is_some f ≡ is_there (found f)
unfolding is_there found
there None = refl
there (Some f) = refl

pub returns : goal.returns
returns c =
    let sought = sought_packet _ _ (rw c.number.ensures at c.find.ensures) in
    c.is_some.ensures ∙ there c.find.result ∙ ap is_there sought
