-- A message sent, by how it gets its ticket, and what that leaves: memories, counts, lengths.
use Rattle.std.specs.Prelude.{◌≡◌, refl, List, ℕ, ◌+◌, length}
use Rattle.std.proofs.Common.{ap, ◌∙◌, arith, length-append}
use Rattle.lists.specs.Map.{upd, upd_ind, upd_same}
use Rattle.protocol.specs.{declared.Entry.Entry, declared.Message.Message, declared.Packet.Packet, Parts.{State, Memory}, Setters.{with_table, with_memory, with_wire}}
use Rattle.head.specs.Sets.{over}
use Rattle.sends.specs.{declared.ticket.Ticket.Ticket, declared.ticket.Ticket.TheVariants.{Remote, Found, New, TooHigh}}
use Rattle.sends.specs.{Ticket.{Adds, snoc, growth, tn_of, table_by, wire_by, log_by}}

module _ (add : Adds) (s : State) (m : Message) (k : Ticket) where
  -- the ticket taken: the receiver's table
  unfoldable pub ticketed_by : State
  ticketed_by = let y = s.live m.receiver in with_memory s m.receiver (with_table y (table_by add y.table m k))

  unfoldable pub sent_by : State
  sent_by =
      let t = ticketed_by in
      with_wire (with_memory t m.sender (log_by add (t.live m.sender) m (tn_of k))) (wire_by add t.wire m k)

pub wire_grown : (l : List Packet) (m : Message) (k : Ticket) → length (wire_by snoc l m k) ≡ length l + growth k
unfolding wire_by growth
wire_grown l m Remote = length-append l _
wire_grown l m (Found t) = omega arith
wire_grown l m (New t) = length-append l _
wire_grown l m TooHigh = omega arith

-- ---- as the definitions send
module _ (s : State) (m : Message) (k : Ticket) where
  abbrev pub sent : State
  sent = sent_by snoc s m k

  abbrev ticketed : State
  ticketed = ticketed_by snoc s m k

  -- what stays in every memory
  module _ {A : Type 0} (f : Memory → A) (table : (y : Memory) (l : List Entry) → f (with_table y l) ≡ f y) where
    pub ticket_keeps : (c : ℕ) → f (ticketed.live c) ≡ f (s.live c)
    unfolding ticketed_by
    ticket_keeps c = upd_ind (λ i y. f y ≡ f (s.live i)) m.receiver _ s.live (table (s.live m.receiver) _) (λ i n. refl) c

    pub keeps : ((y : Memory) (t : ℕ) → f (log_by snoc y m t) ≡ f y) → (c : ℕ) → f (sent.live c) ≡ f (s.live c)
    unfolding sent_by
    keeps log c = upd_ind (λ i y. f y ≡ f (s.live i)) m.sender _ ticketed.live (log _ _ ∙ ticket_keeps m.sender) (λ i n. ticket_keeps i) c

  pub table_after : (c : ℕ) → (sent.live c).table ≡ upd m.receiver (table_by snoc (s.live m.receiver).table m k) (λ i. (s.live i).table) c
  unfolding sent_by ticketed_by log_by
  table_after c =
      upd_ind (λ i y. y.table ≡ (ticketed.live i).table) m.sender _ ticketed.live refl (λ i n. refl) c
      ∙ ap (λ g. g c) (over (λ (y : Memory). y.table) m.receiver _ s.live)

  -- the sender's counts and log
  pub sn_after : (sent.live m.sender).sn ≡ upd m.receiver m.sn (s.live m.sender).sn
  unfolding sent_by log_by
  sn_after =
      ap (λ (y : Memory). y.sn) (upd_same m.sender _ ticketed.live)
      ∙ ap (upd m.receiver m.sn) (ticket_keeps (λ y. y.sn) (λ y l. refl) m.sender)

  pub log_after : length (sent.live m.sender).log ≡ length (s.live m.sender).log + 1
  unfolding sent_by log_by
  log_after =
      ap (λ (y : Memory). length y.log) (upd_same m.sender _ ticketed.live)
      ∙ length-append (ticketed.live m.sender).log _
      ∙ ap (λ (l : List _). length l + 1) (ticket_keeps (λ y. y.log) (λ y l. refl) m.sender)
