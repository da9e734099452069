-- A note as an item of a row: as of a packet, the peer is the receiver and the owner the sender. A note list is a row of them, in the order
-- of arrival.
use Rattle.std.specs.Prelude.{◌≡◌, List, map, ℕ, ◌%◌}
use Rattle.protocol.specs.declared.Note.{Note}
use Rattle.item.specs.{declared.Item.Item, Item.item_of}
use Rattle.words.specs.Rows.{row}

unfoldable pub as_note : Item → Note
as_note x = record { sender = x.owner; receiver = x.peer; sn = x.sn; tn = x.tn }

unfoldable pub note_of : ℕ → Note
note_of w = as_note (item_of w)

-- a note as a word can hold it
unfoldable pub fitted : Note → Note
fitted x = record { sender = x.sender % 16; receiver = x.receiver % 16; sn = x.sn; tn = x.tn }

-- its word, bit by bit: a field that no note has is 0
unfoldable pub packed : Note → Item
packed x = record { sn = x.sn; peer = x.receiver % 16; owner = x.sender % 16; kind = 0; tn = x.tn; value = 0; hops = 0; flags = 0 }

pub packed_note : (w : ℕ) (x : Note) → item_of w ≡ packed x → note_of w ≡ fitted x
unfolding note_of as_note fitted packed
packed_note w x e = rw e

unfoldable pub notes : List ℕ → List Note
notes ws = map note_of (row ws)
