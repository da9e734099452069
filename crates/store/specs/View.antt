-- A store of words as a state of the definitions: the head, 13 memories, 13 copies, 7 note lists, the wire. Any words are a state.
use Rattle.std.specs.Prelude.{◌≡◌, List, ℕ}
use Rattle.lists.specs.Questions.{Question, put_all}
use Rattle.protocol.specs.{declared.Rule.Rule, declared.Rule.TheVariants.Other, declared.Answer.Answer, declared.Answer.TheVariants.{Accepted, Refused}, Parts.State, Step.{Outcome, judged}}
use Rattle.words.specs.{Part.part, Slots.slots}
use Rattle.head.specs.Head.{job_of, lost_of, status_of, held_of, target_of}
use Rattle.notelist.specs.Notes.{notes}
use Rattle.packets.specs.Words.{packets}
use Rattle.memory.specs.{Places.MEMORY, View.memory_view}
use Rattle.store.specs.Places.{LIVE, COPY, NOTES, NOTELIST, WIRE, PACKETS}

unfoldable pub view : List ℕ → State
view xs = record {
  job = job_of xs;
  lost = lost_of xs;
  status = status_of xs;
  target = target_of xs;
  live = λ c. memory_view (slots LIVE MEMORY 13 xs c);
  held = held_of xs;
  copy = λ c. memory_view (slots COPY MEMORY 13 xs c);
  notes = λ p. notes (slots NOTES NOTELIST 7 xs p);
  wire = packets (part WIRE PACKETS xs);
}

unfoldable pub outcome : List ℕ → Answer → Outcome
outcome xs a = record { state = view xs; answer = a }

-- accepted by the rule used, before machines settle
abbrev pub done : Rule → State → Outcome
done r t = record { state = t; answer = Accepted r }

-- the questions are put to s; if all are answered "yes", t is the state
unfoldable pub tried : State → List Question → State → Outcome
tried s questions t = judged s (put_all questions (done Other t))

-- A frame in place: state and answer are those of the outcome o, and a refusal leaves every word as it was.
pub record Framed (before after : List ℕ) (a : Answer) (o : Outcome) : Type 0 where
  pub gives : outcome after a ≡ o
  pub stays : (n : ℕ) → a ≡ Refused n → after ≡ before
