-- What a chare of p gets back is made from: its copy, the logs of other machines and the desk's, the notes kept for p. Each is gone through
-- once, and each element has a ticket or none.
use Rattle.std.specs.Prelude.{◌≡◌, List, [], ◌∷◌, ◌++◌, ℕ}
use Rattle.std.proofs.Common.{sym}
use Rattle.lists.specs.Lists.{gather}
use Rattle.protocol.specs.{declared.Entry.Entry, declared.Logged.Logged, declared.Note.Note, Parts.{State, every_sender}}
use Rattle.protocol.specs.Restart.{known_tickets, other_log, ticket_of_entry, ticket_of_logged, ticket_of_note, is_ticketed_above, is_note_above}
use Rattle.restart.specs.Gather.{chosen, gather_each, gather_chosen, gather_gather}

-- what the copy's entries, the messages of a log and the notes add
unfoldable pub copied : Entry → List Entry
copied e = ticket_of_entry e ∷ []

unfoldable pub logged : ℕ → ℕ → Logged → List Entry
logged c h = chosen (is_ticketed_above c h) ticket_of_logged

unfoldable pub noted : ℕ → ℕ → Note → List Entry
noted c h = chosen (is_note_above c h) ticket_of_note

-- the tickets for c that the log of q adds
unfoldable pub sender_tickets : State → ℕ → ℕ → ℕ → ℕ → List Entry
sender_tickets s p c h q = gather (logged c h) (other_log s p q)

-- all tickets known of chare c, by one walk through each of their sources
pub known_is : (s : State) (p c : ℕ) → known_tickets s p c
    ≡ gather copied (s.copy c).table ++ (gather (sender_tickets s p c (s.copy c).height) every_sender ++ gather (noted c (s.copy c).height) (s.notes p))
unfolding known_tickets sender_tickets copied logged noted
known_is s p c =
    let h = (s.copy c).height in
    sym (rw (
      gather_each ticket_of_entry (s.copy c).table,
      gather_gather (logged c h) (other_log s p) every_sender,
      gather_chosen (is_ticketed_above c h) ticket_of_logged (gather (other_log s p) every_sender),
      gather_chosen (is_note_above c h) ticket_of_note (s.notes p),
    ))
