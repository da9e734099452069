-- A logged message as an item of a row: the peer is the receiver, the owner the sender. A log is a row of them.
use Rattle.std.specs.Prelude.{◌≡◌, Bool, not, ◌&&◌, List, map, ℕ, ◌%◌, eqb, ltb}
use Rattle.protocol.specs.declared.Logged.{Logged}
use Rattle.item.specs.{declared.Item.Item, Item.item_of}
use Rattle.words.specs.Rows.{row}

unfoldable pub as_logged : Item → Logged
as_logged x = record { message = record { sender = x.owner; receiver = x.peer; sn = x.sn; value = x.value; hops = x.hops }; tn = x.tn }

unfoldable pub logged_of : ℕ → Logged
logged_of w = as_logged (item_of w)

-- a logged message as a word can hold it
unfoldable pub fitted : Logged → Logged
fitted x = record {
  message = record { sender = x.message.sender % 16; receiver = x.message.receiver % 16; sn = x.message.sn; value = x.message.value; hops = x.message.hops % 8 };
  tn = x.tn;
}

-- its word, bit by bit: a field that no message has is 0
unfoldable pub packed : Logged → Item
packed x = let m = x.message in record { sn = m.sn; peer = m.receiver % 16; owner = m.sender % 16; kind = 0; tn = x.tn; value = m.value; hops = m.hops % 8; flags = 0 }

pub packed_logged : (w : ℕ) (x : Logged) → item_of w ≡ packed x → logged_of w ≡ fitted x
unfolding logged_of as_logged fitted packed
packed_logged w x e = rw e

unfoldable pub entries : List ℕ → List Logged
entries ws = map logged_of (row ws)

abbrev pub has_ticket : Logged → Bool
has_ticket x = not (eqb x.tn 0)

-- the clean-up at a checkpoint: a message stays unless it has a TN below the limit of its receiver
unfoldable pub is_kept : (ℕ → ℕ) → Logged → Bool
is_kept limit x = not (not (eqb x.tn 0) && ltb x.tn (limit x.message.receiver))
