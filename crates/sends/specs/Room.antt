-- A send adds at most one, and where there is room it is added.
use Rattle.std.specs.Prelude.{◌≡◌, refl, Bool, true, ◌&&◌, List, ◌+◌, ◌<◌, ◌≤◌, length}
use Rattle.std.proofs.Common.{arith}
use Rattle.lists.specs.Tests.{either}
use Rattle.arrays.specs.Front.{push_fits}
use Rattle.protocol.specs.{declared.Entry.Entry, declared.Message.Message, declared.Packet.Packet}
use Rattle.sends.specs.{declared.ticket.Ticket.Ticket, declared.ticket.Ticket.TheVariants.{Remote, Found, New, TooHigh}}
use Rattle.sends.specs.{Ticket.{is_new, growth, snoc, table_by, to_table, wire_by, to_wire}, Plan.extra_after}

-- ---- what a send adds
pub growth_top : (k : Ticket) → growth k ≤ 1
unfolding growth
growth_top Remote = omega arith
growth_top (Found t) = omega arith
growth_top (New t) = omega arith
growth_top TooHigh = omega arith

pub extra_top : (same : Bool) (k : Ticket) → extra_after same k ≤ 1
unfolding extra_after
extra_top same k = either (same && is_new k) (λ e. rw e (omega arith)) (λ e. rw e (omega arith))

-- ---- where there is room
pub table_room : (l : List Entry) (m : Message) (k : Ticket) → (is_new k ≡ true → length l < 16) → to_table l m k ≡ table_by snoc l m k
unfolding table_by is_new
table_room l m Remote room = refl
table_room l m (Found t) room = refl
table_room l m (New t) room = push_fits 16 l _ (room refl)
table_room l m TooHigh room = refl

pub wire_room : (l : List Packet) (m : Message) (k : Ticket) → length l + growth k ≤ 128 → to_wire l m k ≡ wire_by snoc l m k
unfolding wire_by growth
wire_room l m Remote room = push_fits 128 l _ (omega arith)
wire_room l m (Found t) room = refl
wire_room l m (New t) room = push_fits 128 l _ (omega arith)
wire_room l m TooHigh room = refl
