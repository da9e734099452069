-- `ack` notes the entry in the table.
use Rattle.std.proofs.Common.{ap, arith}
use Rattle.lists.specs.Lists.{change1}
use Rattle.protocol.specs.{Tickets.{for_message, mark_noted}, declared.Rule.TheVariants.Other}
use Rattle.memory.specs.View.{table_changed}
use Rattle.deliver.specs.{Effect.{quiet, ack_effect}, View.effect_of}
use Rattle.deliver.proofs.arrive.ack.Goals as goal

pub returns : goal.returns
unfolding effect_of ack_effect
returns c =
    let a = c.args in
    rw c.quiet.ensures (ap (quiet Other) (table_changed a.m.now c.note.new.ws c.requires (omega arith) (change1 (for_message a.sender a.sn) mark_noted) c.note.ensures.row.items))
