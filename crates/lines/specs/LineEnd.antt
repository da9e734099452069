-- Where the first line of an input ends.
use Rattle.std.specs.Prelude.{◌≡◌, refl, List, [], ◌∷◌, ℕ, zero, suc, ◌≤◌, eqb, length, take}
use Rattle.std.proofs.Common.{ap, arith}
use Rattle.std.specs.List.{position_or_len}
use Rattle.lists.specs.Tests.{either}
use Rattle.arrays.specs.Place.{place, place_le}
use Rattle.protocol.specs.{Frames.Line, Lines.{newline, extend, lines}}

-- how many bytes stand before the first newline; all, where there is none
unfoldable pub line_end : List ℕ → ℕ
line_end i = place (λ b. eqb b newline) i

pub line_end_le : (i : List ℕ) → line_end i ≤ length i
unfolding line_end
line_end_le i = place_le (λ b. eqb b newline) i

-- the part of the input that belongs to the line under way
abbrev pub line_part : List ℕ → List ℕ
line_part i = take (line_end i) i

-- the library's word for it
pub line_end_position : (i : List ℕ) → position_or_len (λ b. eqb b newline) i ≡ line_end i
unfolding line_end place
line_end_position [] = refl
line_end_position (b ∷ i) = either (eqb b newline) (λ e. rw e) (λ e. rw (e, line_end_position i) (omega arith))

-- ---- an input that is not empty has a first line, and that is its part before the first newline
pub first_line : (b : ℕ) (i : List ℕ) → (rest : List Line) × (lines (b ∷ i) ≡ line_part (b ∷ i) ∷ rest)
unfolding lines extend line_end place
first_line b [] = either (eqb b newline) (λ e. ([], rw e)) (λ e. ([], rw e))
first_line b (c ∷ i) = either (eqb b newline)
    (λ e. (lines (c ∷ i), rw e))
    (λ e. let (rest, h) = first_line c i in (rest, rw e (ap (extend b) h)))

-- of an input that is cut the first line is cut
pub first_cut : (n : ℕ) (i : List ℕ) → line_part (take n i) ≡ take n (line_part i)
unfolding line_end place
first_cut zero i = refl
first_cut (suc n) [] = refl
first_cut (suc n) (b ∷ i) = either (eqb b newline) (λ e. rw e) (λ e. rw e (ap (b ∷◌) (first_cut n i)))
