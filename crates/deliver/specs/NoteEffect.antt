-- What a NOTE does to the note list that it goes to.
use Rattle.std.specs.Prelude.{cond, ◌||◌, List, [], ◌∷◌, ◌++◌, ltb, length}
use Rattle.lists.specs.Questions.{Question, ◌asks◌}
use Rattle.protocol.specs.{declared.Note.Note, Parts.note_room, Packets.has_note}

-- "stored unless present"
unfoldable pub note_effect : List Note → Note → List Note
note_effect l x = cond (has_note l x) l (l ++ (x ∷ []))

unfoldable pub note_questions : List Note → Note → List Question
note_questions l x = 10 asks (has_note l x || ltb (length l) note_room) ∷ []
