-- A number in a range, or outside.
use Rattle.std.specs.Prelude.{true, false, ◌≡◌, ℕ, ◌<◌, ◌≤◌, leb}
use Rattle.std.proofs.Common.{leb-true}
use Rattle.std.proofs.Math.Bool.{and-false}
use Rattle.std.proofs.lemmas.Bool.{lt-leb}
use Rattle.lists.specs.Tests.{and_l, and_r}
use Rattle.protocol.specs.Frames.{between}

pub record Between (a b x : ℕ) : Type 0 where
  pub low : a ≤ x
  pub high : x ≤ b

pub between_true : (a b x : ℕ) → between a b x ≡ true → Between a b x
unfolding between
between_true a b x e = record { low = leb-true a x (and_l (leb a x) (leb x b) e); high = leb-true x b (and_r (leb a x) (leb x b) e) }

pub between_low : (a b x : ℕ) → x < a → between a b x ≡ false
unfolding between
between_low a b x p = rw (lt-leb a x p)

pub between_high : (a b x : ℕ) → b < x → between a b x ≡ false
unfolding between
between_high a b x p = rw (lt-leb x b p) (and-false (leb a x))
