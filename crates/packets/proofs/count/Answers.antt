-- `packets::count` meets its contract: a packet a word.
use Rattle.std.proofs.Common.{sym, ◌∙◌}
use Rattle.std.proofs.lemmas.List.{length-map}
use Rattle.words.specs.Rows.{row}
use Rattle.packets.specs.Words.{unpacked, packets}
use Rattle.packets.proofs.count.Goals as goal

pub returns : goal.returns
unfolding packets
returns c = c.count.ensures.is ∙ sym (length-map (row _) unpacked)
