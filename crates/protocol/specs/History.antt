-- What a list of lines has done: the accepted injections that were not withdrawn, and each chare's sequence.
use Rattle.std.specs.Prelude.{Bool, true, false, cond, List, [], ◌∷◌, ◌++◌, ℕ, eqb}
use Rattle.std.proofs.Math.Option.{Option, some, none}
use Rattle.lists.specs.Map.{upd}
use Rattle.lists.specs.Lists.{anyb}
use Rattle.protocol.specs.declared.Message.{Message}
use Rattle.protocol.specs.declared.Entry.{Entry}
use Rattle.protocol.specs.declared.Answer.{Answer}
use Rattle.protocol.specs.declared.Answer.TheVariants.{Accepted, Shown, Lost, Refused}
use Rattle.protocol.specs.Parts.{State, start, at_home}
use Rattle.protocol.specs.Working.{next_entry}
use Rattle.protocol.specs.Frames.{Line, Frame, job, inject, deliver, work, checkpoint, crash, restart, show, withdraw, frame}
use Rattle.protocol.specs.Step.{step, play_all, answers_from}
use Rattle.protocol.specs.CrashFree.{Injection}

-- What a list has done so far: "the injections that were not withdrawn", each chare's sequence, and the sequence that stood when the
-- copy of its machine was last fixed.
pub record History : Type 0 where
  pub injections : List Injection
  pub sequence : ℕ → List Message
  pub saved : ℕ → List Message

-- "A chare's sequence is empty at the job."
unfoldable pub no_history : History
no_history = record { injections = []; sequence = λ _. []; saved = λ _. [] }

-- "An accepted 12 adds the message that the rules above let it work."
unfoldable pub message_of : ℕ → Entry → Message
message_of c e = record { sender = e.sender; receiver = c; sn = e.sn; value = e.value; hops = e.hops }

-- the message joins the sequence
unfoldable pub add_worked : History → ℕ → Option Entry → History
add_worked y c none = y
add_worked y c (some e) =
    record { injections = y.injections; sequence = upd c (y.sequence c ++ (message_of c e ∷ [])) y.sequence; saved = y.saved }

-- an injection to chare c
unfoldable pub is_to : ℕ → Injection → Bool
is_to c i = eqb i.chare c

-- the last injection to chare c is withdrawn
unfoldable pub without_last_to : ℕ → List Injection → List Injection
without_last_to c [] = []
without_last_to c (i ∷ l) = cond (anyb (is_to c) l) (i ∷ without_last_to c l) (cond (is_to c i) l (i ∷ l))

-- what an accepted frame adds or takes back; s is the state before it.
-- "An accepted restart of its machine puts back the sequence that stood when the copy used by this restart was fixed, by a
-- checkpoint or by the job."
unfoldable pub recorded : State → History → Frame → History
recorded s y (job b) = no_history
recorded s y (inject c value hops) =
    record { injections = y.injections ++ (record { chare = c; value = value; hops = hops } ∷ []); sequence = y.sequence; saved = y.saved }
recorded s y (deliver k a r n) = y
recorded s y (work c) = add_worked y c (next_entry (s.live c))
recorded s y (checkpoint p) =
    record { injections = y.injections; sequence = y.sequence; saved = at_home s.job p (λ c l. y.sequence c) y.saved }
recorded s y (crash p) = y
recorded s y (restart p) =
    record { injections = y.injections; sequence = at_home s.job p (λ c l. y.saved c) y.sequence; saved = y.saved }
recorded s y (show c) = y
recorded s y (withdraw c) = record { injections = without_last_to c y.injections; sequence = y.sequence; saved = y.saved }

-- "A frame is accepted if its line begins with 00."
unfoldable pub is_accepted : Answer → Bool
is_accepted (Accepted r) = true
is_accepted (Shown height state) = true
is_accepted Lost = false
is_accepted (Refused n) = false

-- only an accepted frame changes it
unfoldable pub record_frame : State → History → Option Frame → Bool → History
record_frame s y none a = y
record_frame s y (some f) true = recorded s y f
record_frame s y (some f) false = y

-- what a line changes
unfoldable pub record_line : State → History → Line → History
record_line s y l = record_frame s y (frame l) (is_accepted (step s l).answer)

-- along the lines
unfoldable pub history_from : State → History → List Line → History
history_from s y [] = y
history_from s y (l ∷ ls) = history_from (step s l).state (record_line s y l) ls

-- "The list begins with no job, each frame gets what the last one left": state, answers and history after a list of lines
unfoldable pub state_after : List Line → State
state_after ls = play_all start ls

-- "A program prints one line per frame."
unfoldable pub answers_after : List Line → List Answer
answers_after ls = answers_from start ls

-- from nothing
unfoldable pub history_after : List Line → History
history_after ls = history_from start no_history ls
