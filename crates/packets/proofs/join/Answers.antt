-- `packets::join` meets its contract: a word more.
use Rattle.item.specs.{Held.held_push, Item.{item_of, items}}
use Rattle.packets.specs.{Words.{unpacked, packets}, Packing.packed_packet}
use Rattle.packets.proofs.join.Goals as goal

pub returns : goal.returns
unfolding packets items
returns c =
    let ws = c.args.ws.now in
    record {
      row = held_push unpacked ws _ _ _ c.push.ensures (packed_packet _ _ c.pack.ensures);
      words = (held_push item_of ws _ _ _ c.push.ensures c.pack.ensures).items;
    }
