-- `frames::byte` meets its contract: within the line the byte of two characters, past its end 0.
use Rattle.std.specs.Prelude.{Option, None, Some, MatchOption, unwrap_or, true, false, ◌≡◌, ℕ, ◌<◌}
use Rattle.std.proofs.Common.{sym, ◌∙◌}
use Rattle.frames.specs.{Decode.{is_digit, digit_value}, DecodeLaws.{decoded_at, decoded_end, no_digit_value}}
use Rattle.frames.proofs.byte.Goals as goal

value : (x : ℕ) (r : Option ℕ) → MatchOption r (is_digit x ≡ false) (λ v. (is_digit x ≡ true) × (v ≡ digit_value x) × (v < 16)) → unwrap_or r 0 ≡ digit_value x
value x None e = sym (no_digit_value x e)
value x (Some v) e = e.1

pub returns-then-i-line : goal.returns-then-i-line
returns-then-i-line c =
    rw (c.unwrap_or.ensures ∙ value _ _ c.digit.ensures, c.unwrap_or-then-i-line.ensures ∙ value _ _ c.digit-then-i-line.ensures)
    (sym (decoded_at _ _ c.if-i-line.true))

pub returns-else-i-line : goal.returns-else-i-line
returns-else-i-line c = sym (decoded_end _ _ c.if-i-line.false)
