-- `grant_new`: the message without a TN gets it, and goes out.
use Rattle.std.proofs.Common.{◌∙◌, ap, arith}
use Rattle.protocol.specs.{Packets.ticketed, declared.Content.TheVariants.Data as DATA, declared.Rule.TheVariants.GrantNew}
use Rattle.memory.specs.View.{log_part, log_changed}
use Rattle.deliver.specs.{Effect.{answering, unticketed, grant_new_effect}, View.effect_of}
use Rattle.deliver.proofs.Variants.{no_unticketed}
use Rattle.deliver.proofs.arrive.grant_new.Goals as goal

pub returns-in_default : goal.returns-in_default
unfolding effect_of grant_new_effect
returns-in_default c = rw (c.quiet.ensures, log_part, ← c.lookup.ensures) (no_unticketed _ _ _ c.in_default.not-Unticketed)

pub returns : goal.returns
unfolding unticketed effect_of grant_new_effect
returns c =
    let a = c.args in
    let v = c.in-Unticketed.message in
    rw c.answering.ensures (ap (λ m. answering GrantNew m (DATA v.value v.hops)) (log_changed a.m.now c.set_ticket.new.ws c.requires (omega arith) (ticketed a.receiver a.sn a.tn) c.set_ticket.ensures.row.items)
    ∙ rw (log_part, ← c.lookup.ensures, c.in-Unticketed.is))
