-- What is left of a lookup where a pattern did not fit.
use Rattle.std.specs.Prelude.{◌≡◌, refl}
use Rattle.protocol.specs.{declared.Lookup.Lookup, declared.Lookup.TheVariants.{Missing, Ticketed, Unticketed}}
use Rattle.protocol.specs.{declared.Message.Message}
use Rattle.deliver.specs.Effect.{unticketed}

-- no message without a TN
pub no_unticketed : {X : Type 0} (d : X) (f : Message → X) (o : Lookup) → ((x : Message) → o ≡ Unticketed x → ⊥) → d ≡ unticketed d f o
unfolding unticketed
no_unticketed d f Missing k = refl
no_unticketed d f Ticketed k = refl
no_unticketed d f (Unticketed x) k = absurd (k x refl)
