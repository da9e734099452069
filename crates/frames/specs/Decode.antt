-- The bytes of a line, read digit by digit: a character that is no digit counts as 0, and a last odd one is left out.
use Rattle.std.specs.Prelude.{Bool, true, false, ◌&&◌, List, [], ◌∷◌, ℕ, ◌+◌, ◌*◌, ◌%◌, eqb, length, get_or}
use Rattle.std.proofs.Math.Option.{Option, some, none}
use Rattle.lists.specs.Lists.{allb}
use Rattle.protocol.specs.Frames.{Line, digit}

unfoldable pub or_zero : Option ℕ → ℕ
or_zero none = 0
or_zero (some a) = a

unfoldable pub is_some : Option ℕ → Bool
is_some none = false
is_some (some a) = true

unfoldable pub digit_value : ℕ → ℕ
digit_value x = or_zero (digit x)

unfoldable pub is_digit : ℕ → Bool
is_digit x = is_some (digit x)

-- f says what a character counts
unfoldable pub pairs : (ℕ → ℕ) → Line → List ℕ
pairs f [] = []
pairs f (x ∷ []) = []
pairs f (x ∷ y ∷ l) = (f x * 16 + f y) ∷ pairs f l

unfoldable pub decoded : Line → List ℕ
decoded l = pairs digit_value l

-- both characters of the byte at i are digits
unfoldable pub is_pair : Line → ℕ → Bool
is_pair l i = is_digit (get_or l (2 * i) 0) && is_digit (get_or l (2 * i + 1) 0)

-- "Hexadecimal digits only, in pairs"
unfoldable pub is_hexadecimal : Line → Bool
is_hexadecimal l = eqb (length l % 2) 0 && allb is_digit l
