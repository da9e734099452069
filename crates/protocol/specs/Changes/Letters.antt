-- Document 02, Point 1: "A marker that needs the old lines drops the letter and gets exactly document 01's."
use Rattle.std.specs.Prelude.{◌≡◌, Bool, false, cond, ◌&&◌, List, [], ◌∷◌, map, ℕ, eqb}
use Rattle.protocol.specs.Frames.{Line}
use Rattle.protocol.specs.Lines.{lines}
use Rattle.protocol.specs.Step.{answers, answers_01}

-- "A frame is accepted if its line begins with 00."
unfoldable pub begins_with_00 : Line → Bool
begins_with_00 [] = false
begins_with_00 (a ∷ []) = false
begins_with_00 (a ∷ b ∷ l) = eqb a 48 && eqb b 48

-- a line without its last character
unfoldable pub without_last : Line → Line
without_last [] = []
without_last (a ∷ []) = []
without_last (a ∷ b ∷ l) = a ∷ without_last (b ∷ l)

-- what the marker does with a line: any other than an accepted one stays
unfoldable pub drop_letter : Line → Line
drop_letter l = cond (begins_with_00 l) (without_last l) l

-- for every input, the lines of the whole output
pub record Letters : Type 0 where
  pub dropped : (input : List ℕ) → map drop_letter (lines (answers input)) ≡ lines (answers_01 input)
