use Rattle.item.specs.{Held.held_push, Item.{item_of, items}}
use Rattle.notelist.specs.Notes.{note_of, notes, packed_note}
use Rattle.notelist.proofs.push.Goals as goal

pub returns : goal.returns
unfolding notes items
returns c =
    let ws = c.args.ws.now in
    record {
      row = held_push note_of ws _ _ _ c.push.ensures (packed_note _ _ c.pack.ensures);
      words = (held_push item_of ws _ _ _ c.push.ensures c.pack.ensures).items;
    }
