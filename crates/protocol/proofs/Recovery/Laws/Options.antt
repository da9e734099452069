-- Laws on options; no word of the protocol.
use Rattle.std.specs.Prelude.{◌≡◌, ℕ}
use Rattle.std.proofs.Math.Option.{Option, some, none}
use Rattle.std.proofs.Common.{arith}

pub some_none {κ} : {X : Type κ} {A : Type 0} {a : A} {o : Option A} → o ≡ some a → o ≡ none → X
some_none p q = absurd (let z : ◌≡◌ {A = ℕ} 0 1 = cc in omega arith)

pub some_inj : {A : Type 0} {a b : A} {o : Option A} → o ≡ some a → o ≡ some b → a ≡ b
some_inj p q = cc
