-- `packets::leave` meets its contract: a word less.
use Rattle.std.proofs.Common.{rules}
use Rattle.words.specs.{Rows.row, Becomes.becomes_mapped, Mapped.map_without}
use Rattle.packets.specs.Words.{unpacked, packets}
use Rattle.packets.proofs.leave.Goals as goal

pub returns : goal.returns
unfolding packets
returns c =
    let r = c.remove.ensures in
    record {
      row = becomes_mapped unpacked r (map_without unpacked _ (row _));
      words = r.items;
    }
