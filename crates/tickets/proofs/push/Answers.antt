use Rattle.item.specs.{Held.held_push, Item.{item_of, items}}
use Rattle.tickets.specs.{Table.{entry_of, entries}, EntryLaws.packed_entry}
use Rattle.tickets.proofs.push.Goals as goal

pub returns : goal.returns
unfolding entries items
returns c =
    let ws = c.args.ws.now in
    record {
      row = held_push entry_of ws _ _ _ c.push.ensures (packed_entry _ _ c.pack.ensures);
      words = (held_push item_of ws _ _ _ c.push.ensures c.pack.ensures).items;
    }
