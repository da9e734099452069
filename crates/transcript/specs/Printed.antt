-- An answer's line with its newline has at most 16 bytes.
use Rattle.std.specs.Prelude.{List, [], ◌∷◌, ◌++◌, ◌≡◌, refl, ℕ, zero, suc, ◌+◌, ◌-◌, ◌≤◌, ◌/◌, length, take, drop}
use Rattle.std.proofs.Common.{sym, ◌∙◌, arith, append_assoc, length-append}
use Rattle.protocol.specs.{declared.Rule.TheVariants.Other, declared.Answer.Answer, declared.Answer.TheVariants.{Accepted, Shown, Lost, Refused}, Lines.{newline, hexadecimal, two_decimals, line_01, letter, ending, line}}
use Rattle.arrays.specs.Copies.{put_at, put_part}
use Rattle.transcript.specs.Reading.{answer_room, printed}

length_hexadecimal : (k n : ℕ) → length (hexadecimal k n) ≡ k
unfolding hexadecimal
length_hexadecimal zero n = refl
length_hexadecimal (suc k) n = length-append (hexadecimal k (n / 16)) _ ∙ omega (arith, length_hexadecimal k (n / 16))

line_fits : (a : Answer) → length (line a) ≤ 15
unfolding line line_01 ending two_decimals
line_fits (Accepted r) = omega arith
line_fits (Shown h s) =
    let l : List ℕ = hexadecimal 4 h ++ hexadecimal 8 s in
    omega (arith, length-append l (letter Other ∷ []), length-append (hexadecimal 4 h) (hexadecimal 8 s), length_hexadecimal 4 h, length_hexadecimal 8 s)
line_fits Lost = omega arith
line_fits (Refused n) = omega arith

pub printed_fits : (a : Answer) → length (printed a) ≤ answer_room
unfolding printed
printed_fits a = omega (arith, length-append (line a) (newline ∷ []), line_fits a)

-- the line stands at the front of the part of a buffer that is left
module _ (a : Answer) (n : ℕ) (count : n ≡ length (line a) + 1) where
  pub printed_count : n ≡ length (printed a)
  unfolding printed
  printed_count = omega (arith, length-append (line a) (newline ∷ []))

  pub printed_put : (out : List ℕ) (at : ℕ) (ys : List ℕ) → ys ≡ line a ++ (newline ∷ drop n (take (length out - at) (drop at out)))
      → take at out ++ (ys ++ drop (length out - at) (drop at out)) ≡ put_at out at (printed a)
  unfolding printed
  printed_put out at ys e = put_part out at n (printed a) ys printed_count (e ∙ sym (append_assoc (line a) (newline ∷ []) _))
