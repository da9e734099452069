-- `grant_old`: the message without a TN goes.
use Rattle.std.proofs.Common.{◌∙◌, ap, arith}
use Rattle.lists.specs.Lists.{remove1}
use Rattle.protocol.specs.{Packets.for_receiver, declared.Rule.TheVariants.GrantOld}
use Rattle.memory.specs.View.{log_part, log_changed}
use Rattle.deliver.specs.{Effect.{quiet, unticketed, grant_old_effect}, View.effect_of}
use Rattle.deliver.proofs.Variants.{no_unticketed}
use Rattle.deliver.proofs.arrive.grant_old.Goals as goal

pub returns-in_default : goal.returns-in_default
unfolding effect_of grant_old_effect
returns-in_default c = rw (c.quiet.ensures, log_part, ← c.lookup.ensures) (no_unticketed _ _ _ c.in_default.not-Unticketed)

pub returns : goal.returns
unfolding unticketed effect_of grant_old_effect
returns c =
    let a = c.args in
    rw c.quiet-2.ensures (ap (quiet GrantOld) (log_changed a.m.now c.remove.new.ws c.requires (omega arith) (remove1 (for_receiver a.receiver a.sn)) c.remove.ensures.row.items)
    ∙ rw (log_part, ← c.lookup.ensures, c.in-Unticketed.is))
