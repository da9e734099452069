-- Holes as document 01 has them, a set: those of the restart less those given since. The statement that `highest_at_restart`, height and table say
-- the same; `holes_read_off` in Numbers proves it.
use Rattle.std.specs.Prelude.{◌≡◌, Bool, true, false, cond, not, ◌&&◌, List, [], ◌∷◌, ℕ, ◌≤◌, eqb, ltb}
use Rattle.std.proofs.Math.Option.{Option, some, none}
use Rattle.lists.specs.Map.{upd}
use Rattle.lists.specs.Lists.{anyb}
use Rattle.protocol.specs.declared.Entry.{Entry}
use Rattle.protocol.specs.declared.Packet.{Packet}
use Rattle.protocol.specs.Parts.{Memory, State, start, at_home}
use Rattle.protocol.specs.Tickets.{has_tn, highest, lowest_hole, new_tn}
use Rattle.protocol.specs.Sending.{send}
use Rattle.protocol.specs.Working.{next_entry, worked_only, receivers_of, value_out, hops_out}
use Rattle.protocol.specs.Restart.{restored}
use Rattle.protocol.specs.Frames.{Line, Frame, job, inject, deliver, work, checkpoint, crash, restart, show, withdraw}
use Rattle.protocol.specs.Questions.{takes_ticket, needs_ticket, on_wire}
use Rattle.protocol.specs.History.{state_after}
use Rattle.protocol.proofs.Recovery.Along.{along}

-- for each chare a set of TNs
abbrev pub Holes : Type 0
Holes = ℕ → ℕ → Bool

unfoldable pub no_holes : Holes
no_holes c t = false

-- "TNs above the height and below the highest with no entry, and no others, are holes."
unfoldable pub is_hole : ℕ → ℕ → List Entry → ℕ → Bool
is_hole height highest l t = ltb height t && ltb t highest && not (anyb (has_tn t) l)

unfoldable pub restart_holes : Memory → ℕ → Bool
restart_holes m = is_hole m.height (highest m.height m.table) m.table

-- chare r gives a new ticket: its TN is a hole no longer
unfoldable pub give : State → ℕ → Holes → Holes
give s r h = upd r (λ t. h r t && not (eqb (new_tn (s.live r)) t)) h

-- an ASK that needs a new ticket
unfoldable pub give_asked : State → Option Packet → Holes → Holes
give_asked s none h = h
give_asked s (some p) h = cond (needs_ticket s p) (give s p.receiver h) h

-- sends in order, each as if those before it were made
unfoldable pub give_sent : State → ℕ → List ℕ → ℕ → ℕ → Holes → Holes
give_sent s a [] value hops h = h
give_sent s a (b ∷ l) value hops h = give_sent (send s a b value hops) a l value hops (cond (takes_ticket s a b) (give s b h) h)

unfoldable pub give_worked : State → ℕ → Option Entry → Holes → Holes
give_worked s c none h = h
give_worked s c (some e) h = give_sent (worked_only s c e) c (receivers_of s c e) (value_out s c e) (hops_out e) h

-- what an accepted frame makes of the holes; s is the state before it
unfoldable pub change_holes : State → Holes → Frame → Holes
change_holes s h (job b) = no_holes
change_holes s h (inject c value hops) = give_sent s 0 (c ∷ []) value hops h
change_holes s h (deliver k a r n) = give_asked s (on_wire s k a r n) h
change_holes s h (work c) = give_worked s c (next_entry (s.live c)) h
change_holes s h (checkpoint p) = h
change_holes s h (crash p) = at_home s.job p (λ c g t. false) h
change_holes s h (restart p) = at_home s.job p (λ c g. restart_holes (restored s p c)) h
change_holes s h (show c) = h
change_holes s h (withdraw c) = h

unfoldable pub holes_after : List Line → Holes
holes_after moment = along change_holes start no_holes moment

-- the lowest of a set, if any
abbrev pub Lowest : (ℕ → Bool) → Option ℕ → Type 0
Lowest h none = (t : ℕ) → h t ≡ false
Lowest h (some t) = (h t ≡ true) × ((u : ℕ) → h u ≡ true → t ≤ u)

-- the set h is what `highest_at_restart`, height and table say, and its lowest is the TN that a new ticket takes
pub record ReadOff (h : ℕ → Bool) (m : Memory) : Type 0 where
  pub same : (t : ℕ) → h t ≡ is_hole m.height m.highest_at_restart m.table t
  pub lowest : Lowest h (lowest_hole m.height m.highest_at_restart m.table)

-- For every list of lines, of every chare.
abbrev pub HolesReadOff : Type 0
HolesReadOff = (moment : List Line) (c : ℕ) → ReadOff (holes_after moment c) ((state_after moment).live c)
