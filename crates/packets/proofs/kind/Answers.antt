-- `packets::kind` meets its contract: a kind that no packet has counts as ACK.
use Rattle.std.proofs.Common.{ap, ◌∙◌}
use Rattle.protocol.specs.Numbers.{kind_number}
use Rattle.packets.specs.Names.{kind_shown}
use Rattle.packets.proofs.kind.Goals as goal

pub returns : goal.returns
returns c = ap kind_number c.unwrap_or.ensures ∙ kind_shown c.args.w c.try_from.result c.try_from.ensures
