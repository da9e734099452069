-- How a message to be sent gets its ticket, and what the send changes.
use Rattle.std.specs.Prelude.{◌≡◌, ◌≢◌, refl, Bool, true, false, cond, List, [], ◌∷◌, ◌++◌, ℕ, ◌+◌, ltb}
use Rattle.lists.specs.Map.{upd}
use Rattle.arrays.specs.Front.{push}
use Rattle.protocol.specs.{declared.Message.Message, declared.Entry.Entry, declared.Packet.Packet, declared.Logged.Logged}
use Rattle.protocol.specs.{declared.Content.TheVariants.{Ask as ASK, Note as NOTE}, Parts.Memory, Setters.{with_log, with_sn}, Tickets.filled, Sending.{about, local_entry}}
use Rattle.item.specs.declared.Item.{Item}
use Rattle.packets.specs.Packing.{packed}
use Rattle.sends.specs.{declared.ticket.Ticket.Ticket, declared.ticket.Ticket.TheVariants.{Remote, Found, New, TooHigh}}

-- no SN or TN passes 60,000
unfoldable pub fits : Ticket → Bool
fits Remote = true
fits (Found t) = true
fits (New t) = true
fits TooHigh = false

unfoldable pub is_new : Ticket → Bool
is_new Remote = false
is_new (Found t) = false
is_new (New t) = true
is_new TooHigh = false

pub not_new : (k : Ticket) → ((t : ℕ) → k ≢ New t) → is_new k ≡ false
unfolding is_new
not_new Remote h = refl
not_new (Found t) h = refl
not_new (New t) h = absurd (h t refl)
not_new TooHigh h = refl

-- how many packets go to the wire
unfoldable pub growth : Ticket → ℕ
growth Remote = 1
growth (Found t) = 0
growth (New t) = 1
growth TooHigh = 0

-- the TN that the log keeps; 0 is none yet
unfoldable pub tn_of : Ticket → ℕ
tn_of Remote = 0
tn_of (Found t) = t
tn_of (New t) = t
tn_of TooHigh = 0

-- ---- how a list of so much room gets one more
abbrev pub Adds : Type 1
Adds = (A : Type 0) → ℕ → List A → A → List A

-- as the definitions do, also where it is full
abbrev pub snoc : Adds
snoc A room l x = l ++ (x ∷ [])

-- as the store does: what is full stays
abbrev pub capped : Adds
capped A = push

-- ---- what the send changes
module _ (add : Adds) where
  -- the receiver's table
  unfoldable pub table_by : List Entry → Message → Ticket → List Entry
  table_by l m Remote = l
  table_by l m (Found t) = filled m.sender m.sn m.value m.hops l
  table_by l m (New t) = add Entry 16 l (local_entry m t)
  table_by l m TooHigh = l

  unfoldable pub wire_by : List Packet → Message → Ticket → List Packet
  wire_by l m Remote = add Packet 128 l (about m ASK)
  wire_by l m (Found t) = l
  wire_by l m (New t) = add Packet 128 l (about m (NOTE t))
  wire_by l m TooHigh = l

  -- the sender's memory, with the message in its log
  unfoldable pub log_by : Memory → Message → ℕ → Memory
  log_by x m t = with_log (with_sn x (upd m.receiver m.sn x.sn)) (add Logged 16 x.log (record { message = m; tn = t }))

-- in the store
abbrev pub to_table : List Entry → Message → Ticket → List Entry
to_table = table_by capped

abbrev pub to_wire : List Packet → Message → Ticket → List Packet
to_wire = wire_by capped

-- bit by bit
unfoldable pub to_words : List Item → Message → Ticket → List Item
to_words l m Remote = push 128 l (packed (about m ASK))
to_words l m (Found t) = l
to_words l m (New t) = push 128 l (packed (about m (NOTE t)))
to_words l m TooHigh = l

abbrev pub to_log : Memory → Message → ℕ → Memory
to_log = log_by capped

-- ---- the sender: the SN after n, of which none passes 60,000, and the message that has it
unfoldable pub sn_next : ℕ → ℕ
sn_next n = cond (ltb n 60000) (n + 1) n

abbrev pub message_after : ℕ → ℕ → ℕ → ℕ → ℕ → Message
message_after a b n v h = record { sender = a; receiver = b; sn = sn_next n; value = v; hops = h }
