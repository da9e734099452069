-- A message sent where the store stands: the receiver's memory, the sender's and the wire, one after the other.
use Rattle.std.specs.Prelude.{◌≡◌, refl, true, List, ℕ, ◌+◌, ◌<◌, ◌≤◌, length}
use Rattle.std.proofs.Common.{◌∙◌}
use Rattle.arrays.specs.Front.{push_fits}
use Rattle.protocol.specs.{declared.Message.Message, Parts.State, Setters.with_table}
use Rattle.words.specs.Part.{part, put}
use Rattle.packets.specs.Words.{packets}
use Rattle.memory.specs.{Places.MEMORY, View.memory_view}
use Rattle.store.specs.{Places.{WIRE, PACKETS, STORE, live_from}, View.view, ViewLaws.{wire_at, live_length, live_changed, wire_put}}
use Rattle.sends.specs.{declared.ticket.Ticket.Ticket, Room.{table_room, wire_room}, Sent.{ticketed_by, sent_by, sent, ticket_keeps}}
use Rattle.sends.specs.{Ticket.{is_new, growth, tn_of, snoc, capped, to_table, to_wire, log_by, to_log, message_after}}

abbrev pub to_sent : State → Message → Ticket → State
to_sent = sent_by capped

-- where there is room it is what the definitions send
pub room_sent : (s : State) (m : Message) (k : Ticket) → length (s.live m.sender).log < 16 → (is_new k ≡ true → length (s.live m.receiver).table < 16)
    → length s.wire + growth k ≤ 128 → to_sent s m k ≡ sent s m k
unfolding sent_by ticketed_by log_by
room_sent s m k log table wire =
    let same = ticket_keeps s m k (λ y. y.log) (λ y l. refl) m.sender in
    rw (
      table_room (s.live m.receiver).table m k table,
      wire_room s.wire m k wire,
      push_fits 16 ((ticketed_by snoc s m k).live m.sender).log (record { message = m; tn = tn_of k }) (rw same log),
    )

-- m is the next message of a to b; ys is the receiver's memory afterwards, zs then the sender's, ws then the wire
module _ (xs : List ℕ) (size : length xs ≡ STORE) (a b v h : ℕ) (k : Ticket) (a_in : a < 13) (b-in : b < 13)
    (m : Message) (m-is : m ≡ message_after a b (((view xs).live a).sn b) v h)
    (ys : List ℕ) (ly : length ys ≡ MEMORY) (takes : let y = memory_view (part (live_from b) MEMORY xs) in memory_view ys ≡ with_table y (to_table y.table m k)) where
  abbrev x1 : List ℕ
  x1 = put (live_from b) MEMORY xs ys

  module _ (zs : List ℕ) (lz : length zs ≡ MEMORY) (t : ℕ) (t-is : t ≡ tn_of k) (logs : memory_view zs ≡ to_log (memory_view (part (live_from a) MEMORY x1)) m t) where
    abbrev x2 : List ℕ
    x2 = put (live_from a) MEMORY x1 zs

    pub sent_at : (ws : List ℕ) → length ws ≡ PACKETS → packets ws ≡ to_wire (packets (part WIRE PACKETS x2)) m k
        → view (put WIRE PACKETS x2 ws) ≡ to_sent (view xs) (message_after a b (((view xs).live a).sn b) v h) k
    unfolding sent_by ticketed_by
    sent_at ws lw packs =
        let long = live_length xs size b b-in ys ly in
        wire_put x2 (live_length x1 long a a_in zs lz) ws lw
        ∙ rw (
          packs,
          ← wire_at x2,
          live_changed x1 long a a_in zs lz (λ y. to_log y m t) logs,
          live_changed xs size b b-in ys ly (λ y. with_table y (to_table y.table m k)) takes,
          t-is,
          m-is,
        )
