-- The three statuses of a machine are different, and what the tests on them say.
use Rattle.std.specs.Prelude.{◌≡◌, refl, true, false, not, ◌||◌, ◌⊎◌, ◌≢◌, ℕ}
use Rattle.std.proofs.Common.{inl, inr, arith}
use Rattle.lists.specs.Tests.{true_not_false}
use Rattle.protocol.specs.declared.Status.{Status}
use Rattle.protocol.specs.declared.Status.TheVariants.{Up, Down, CatchingUp}
use Rattle.protocol.specs.Parts.{is_down, is_catching_up}

pub down_not_up : Down ≢ Up
down_not_up e = let z : ◌≡◌ {A = ℕ} 0 1 = cc in omega arith

pub up_not_down : Up ≢ Down
up_not_down e = let z : ◌≡◌ {A = ℕ} 0 1 = cc in omega arith

pub catching_up_not_up : CatchingUp ≢ Up
catching_up_not_up e = let z : ◌≡◌ {A = ℕ} 0 1 = cc in omega arith

pub catching_up_not_down : CatchingUp ≢ Down
catching_up_not_down e = let z : ◌≡◌ {A = ℕ} 0 1 = cc in omega arith

pub down_not_catching_up : Down ≢ CatchingUp
down_not_catching_up e = let z : ◌≡◌ {A = ℕ} 0 1 = cc in omega arith

pub up? : (t : Status) → (t ≡ Up) ⊎ (t ≢ Up)
up? Up = inl refl
up? Down = inr down_not_up
up? CatchingUp = inr catching_up_not_up

pub down_is : (t : Status) → is_down t ≡ false → t ≢ Down
unfolding is_down
down_is Up e = up_not_down
down_is Down e = true_not_false refl e
down_is CatchingUp e = catching_up_not_down

pub not_down : (t : Status) → t ≢ Down → is_down t ≡ false
unfolding is_down
not_down Up d = refl
not_down Down d = absurd (d refl)
not_down CatchingUp d = refl

pub down_is_down : (t : Status) → is_down t ≡ true → t ≡ Down
unfolding is_down
down_is_down Up e = true_not_false e refl
down_is_down Down e = refl
down_is_down CatchingUp e = true_not_false e refl

pub catching : (t : Status) → is_catching_up t ≡ true → t ≡ CatchingUp
unfolding is_catching_up
catching Up e = true_not_false e refl
catching Down e = true_not_false e refl
catching CatchingUp e = refl

pub neither_up : (t : Status) → not (is_down t || is_catching_up t) ≡ true → t ≡ Up
unfolding is_down is_catching_up
neither_up Up e = refl
neither_up Down e = true_not_false e refl
neither_up CatchingUp e = true_not_false e refl
