-- The code's Option as that of the definitions.
use Rattle.std.specs.Prelude.{Option as Found, None, Some}
use Rattle.std.proofs.Math.Option.{Option, some, none}

abbrev pub maybe : {A : Type 0} → Found A → Option A
maybe None = none
maybe (Some x) = some x
