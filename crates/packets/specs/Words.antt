-- A packet as an item of a row: the peer is the receiver, the owner the sender, the kind as in a frame. Of a GRANT the flags say which.
use Rattle.std.specs.Prelude.{Bool, true, false, cond, List, map, ℕ, ◌%◌, eqb}
use Rattle.protocol.specs.{declared.Content.Content, declared.Content.TheVariants.{Ask, GrantOld, GrantReceived, GrantNew, Data, Note, Ack}, declared.Packet.Packet}
use Rattle.item.specs.{declared.Item.Item, Item.item_of}
use Rattle.words.specs.Rows.{row}

-- the three GRANTs
unfoldable pub granted : ℕ → ℕ → Content
granted f t = cond (eqb f 0) GrantOld (cond (eqb f 1) (GrantReceived t) (GrantNew t))

-- by kind, flags, TN, value and hops; a kind that no packet has counts as ACK
unfoldable pub carried : ℕ → ℕ → ℕ → ℕ → ℕ → Content
carried k f t v h =
    cond (eqb k 1) Ask
    (cond (eqb k 2) (granted f t)
    (cond (eqb k 3) (Data v h)
    (cond (eqb k 4) (Note t) Ack)))

-- what holds of both holds of either
pub pick : (P : Content → Type 0) (b : Bool) {x y : Content} → P x → P y → P (cond b x y)
pick P true p q = p
pick P false p q = q

unfoldable pub content_of : Item → Content
content_of x = carried x.kind x.flags x.tn x.value x.hops

unfoldable pub as_packet : Item → Packet
as_packet x = record { sender = x.owner; receiver = x.peer; sn = x.sn; content = content_of x }

unfoldable pub unpacked : ℕ → Packet
unpacked w = as_packet (item_of w)

-- a content, and a packet, as a word can hold it
unfoldable pub fit_content : Content → Content
fit_content Ask = Ask
fit_content GrantOld = GrantOld
fit_content (GrantReceived t) = GrantReceived t
fit_content (GrantNew t) = GrantNew t
fit_content (Data v h) = Data v (h % 8)
fit_content (Note t) = Note t
fit_content Ack = Ack

unfoldable pub fitted : Packet → Packet
fitted p = record { sender = p.sender % 16; receiver = p.receiver % 16; sn = p.sn; content = fit_content p.content }

-- the wire, oldest first
unfoldable pub packets : List ℕ → List Packet
packets ws = map unpacked (row ws)
