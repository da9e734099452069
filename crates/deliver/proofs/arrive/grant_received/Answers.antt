-- `grant_received`: the message without a TN gets it.
use Rattle.std.proofs.Common.{◌∙◌, ap, arith}
use Rattle.protocol.specs.{Packets.ticketed, declared.Rule.TheVariants.GrantReceived}
use Rattle.memory.specs.View.{log_part, log_changed}
use Rattle.deliver.specs.{Effect.{quiet, unticketed, grant_received_effect}, View.effect_of}
use Rattle.deliver.proofs.Variants.{no_unticketed}
use Rattle.deliver.proofs.arrive.grant_received.Goals as goal

pub returns-in_default : goal.returns-in_default
unfolding effect_of grant_received_effect
returns-in_default c = rw (c.quiet.ensures, log_part, ← c.lookup.ensures) (no_unticketed _ _ _ c.in_default.not-Unticketed)

pub returns : goal.returns
unfolding unticketed effect_of grant_received_effect
returns c =
    let a = c.args in
    rw c.quiet-2.ensures (ap (quiet GrantReceived) (log_changed a.m.now c.set_ticket.new.ws c.requires (omega arith) (ticketed a.receiver a.sn a.tn) c.set_ticket.ensures.row.items)
    ∙ rw (log_part, ← c.lookup.ensures, c.in-Unticketed.is))
