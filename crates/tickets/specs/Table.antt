-- A table entry as an item of a row: the peer is the sender, the lower flag is received, the upper one noted. A table is a row of them.
use Rattle.std.specs.Prelude.{◌≡◌, Bool, cond, List, map, ℕ, ◌+◌, ◌-◌, ◌*◌, ◌/◌, ◌%◌, eqb, leb, length}
use Rattle.lists.specs.Lists.{anyb}
use Rattle.arrays.specs.Front.{push}
use Rattle.protocol.specs.{declared.Entry.Entry, Tickets.{for_message, unreceived}, Restart.enter}
use Rattle.item.specs.{declared.Item.Item, Item.{item_of, items}}
use Rattle.words.specs.{Fields.bit, Rows.row, Becomes.Becomes}

unfoldable pub as_entry : Item → Entry
as_entry x = record { sender = x.peer; sn = x.sn; tn = x.tn; received = eqb (x.flags % 2) 1; noted = eqb (x.flags / 2) 1; value = x.value; hops = x.hops }

unfoldable pub entry_of : ℕ → Entry
entry_of w = as_entry (item_of w)

-- an entry as a word can hold it
unfoldable pub fitted : Entry → Entry
fitted e = record { sender = e.sender % 16; sn = e.sn; tn = e.tn; received = e.received; noted = e.noted; value = e.value; hops = e.hops % 8 }

-- its word, bit by bit: a field that no entry has is 0
unfoldable pub packed : Entry → Item
packed e = record { sn = e.sn; peer = e.sender % 16; owner = 0; kind = 0; tn = e.tn; value = e.value; hops = e.hops % 8; flags = bit e.received + 2 * bit e.noted }

unfoldable pub entries : List ℕ → List Entry
entries ws = map entry_of (row ws)

-- a ticket is entered where the table has room for what it then holds; else the table stays
pub record Entering (before : List ℕ) (s n tn : ℕ) (after : List ℕ) (r : Bool) : Type 0 where
  pub fits : r ≡ leb (length (enter (entries before) (unreceived s n tn))) (length before - 1)
  pub table : Becomes entries before after (cond r (enter (entries before) (unreceived s n tn)) (entries before))
  pub words : items after ≡ cond (anyb (for_message s n) (entries before)) (items before) (push (length before - 1) (items before) (packed (unreceived s n tn)))
