-- A reader that is fed byte by byte: the state, and what it has of the line under way.
use Rattle.std.specs.Prelude.{Bool, true, false, cond, ◌||◌, List, [], ◌∷◌, ◌++◌, ℕ, suc, ◌-◌, eqb, leb, length, take}
use Rattle.protocol.specs.{Parts.{State, start}, declared.Answer.Answer, Frames.Line, Lines.{newline, line}, Step.step}

-- One more than the longest frame has digits: of a longer line the first bytes are kept, which are no frame either.
abbrev pub LINE : ℕ
LINE = 2047

unfoldable pub line_room : ℕ
line_room = LINE

-- the longest line that an answer prints, with its newline
abbrev pub answer_room : ℕ
answer_room = 16

pub record Reading : Type 0 where
  pub state : State
  pub line : Line

-- a reader that has read l of the line under way
unfoldable pub within : State → Line → Reading
within s l = record { state = s; line = take line_room l }

unfoldable pub beginning : Reading
beginning = within start []

-- an answer's line, with its newline
unfoldable pub printed : Answer → List ℕ
printed a = line a ++ (newline ∷ [])

-- a newline ends the line, any other byte goes to it
unfoldable pub read_byte : Reading → ℕ → Reading
read_byte r b =
    cond (eqb b newline)
    (record { state = (step r.state r.line).state; line = [] })
    (record { state = r.state; line = take line_room (r.line ++ (b ∷ [])) })

unfoldable pub byte_output : Reading → ℕ → List ℕ
byte_output r b = cond (eqb b newline) (printed (step r.state r.line).answer) []

unfoldable pub read_all : Reading → List ℕ → Reading
read_all r [] = r
read_all r (b ∷ l) = read_all (read_byte r b) l

unfoldable pub output : Reading → List ℕ → List ℕ
output r [] = []
output r (b ∷ l) = byte_output r b ++ output (read_byte r b) l

unfoldable pub is_empty : Line → Bool
is_empty [] = true
is_empty (b ∷ l) = false

-- at the end of the input: what follows the last newline is a line only if it is not empty
unfoldable pub last_output : Reading → List ℕ
last_output r = cond (is_empty r.line) [] (byte_output r newline)

-- how many bytes of an input are taken into a lent buffer: one more while there is room for one more answer
unfoldable pub takes : ℕ → Reading → List ℕ → ℕ
takes room r [] = 0
takes room r (b ∷ l) = cond (leb answer_room room) (suc (takes (room - length (byte_output r b)) (read_byte r b) l)) 0

-- there is room for what is printed at the end
unfoldable pub finishes : ℕ → Reading → Bool
finishes room r = is_empty r.line || leb answer_room room

-- the state then: the last line is played where there is room for its answer
unfoldable pub end_state : ℕ → Reading → State
end_state room r = cond (is_empty r.line) r.state (cond (leb answer_room room) (step r.state r.line).state r.state)
