-- Frame 11 as a whole: its questions before the packet is sought, the state after it, and what becomes of a packet found.
use Rattle.std.specs.Prelude.{Bool, not, ◌&&◌, List, [], ◌∷◌, ℕ, ◌<◌, leb, length}
use Rattle.std.proofs.Math.Option.{Option, some, none}
use Rattle.lists.specs.Questions.{Question, ◌asks◌, Result, refuse, ok, put_all}
use Rattle.protocol.specs.{declared.Rule.TheVariants.Other, declared.Packet.Packet, declared.Status.Status, Parts.{Job, State, number_limit}, Setters.with_wire}
use Rattle.protocol.specs.{Frames.between}
use Rattle.protocol.specs.{Packets.{destination, rule_of, deliver, note_of}, Step.{Outcome, judged}}
use Rattle.words.specs.Rows.{without}
use Rattle.head.specs.Head.{runs}
use Rattle.packets.specs.Fits.{Fits}
use Rattle.store.specs.View.{done}
use Rattle.deliver.specs.{Effect.{effect, effect_questions}, NoteEffect.{note_effect, note_questions}, Arrival.{put_effect, put_notes}}

-- machines settle later
unfoldable pub delivered : State → ℕ → ℕ → ℕ → ℕ → Option Packet → Outcome
delivered s k a r n none = done Other s
delivered s k a r n (some p) = done (rule_of s p p.content) (deliver s k a r n p)

unfoldable pub in_range : Job → ℕ → ℕ → ℕ → ℕ → Bool
in_range j k a r n = between 1 5 k && leb a j.chares && between 1 j.chares r && between 1 number_limit n

-- questions 2 to 5
unfoldable pub first_questions : Job → Bool → (ℕ → Status) → ℕ → ℕ → ℕ → ℕ → List Question
first_questions j lost status k a r n =
    2 asks j.set ∷ 3 asks in_range j k a r n ∷ 4 asks not lost ∷ 5 asks runs status (destination j k a r) ∷ []

-- the state once the packet at a place has left the wire
abbrev pub taken_off : State → ℕ → State
taken_off s at = with_wire s (without at s.wire)

-- a packet, such as a word can hold, is at a place on the wire
pub record Waits (s : State) (at : ℕ) (p : Packet) : Type 0 where
  pub fits : Fits p
  pub here : at < length s.wire

-- what follows the questions, changed by f
unfoldable pub then : {S T : Type 0} → (S → T) → Result S → Result T
then f (refuse n) = refuse n
then f (ok x) = ok (f x)

-- the packet p, at a place on the wire, comes to the memory of chare c
unfoldable pub chare_outcome : State → ℕ → ℕ → Packet → Outcome
chare_outcome s c at p = judged s (then (λ e. done e.rule (put_effect (taken_off s at) c p e)) (put_all (effect_questions (s.live c) p p.content) (effect (s.live c) p p.content)))

-- as a NOTE of the TN t, it comes to the note list for the receiver's machine
unfoldable pub note_outcome : State → ℕ → Packet → ℕ → Outcome
note_outcome s at p t =
    let h = s.job.home p.receiver in
    judged s (then (λ l. done Other (put_notes (taken_off s at) h p l)) (put_all (note_questions (s.notes h) (note_of p t)) (note_effect (s.notes h) (note_of p t))))
