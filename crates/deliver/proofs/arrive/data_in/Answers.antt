-- `data_in`: no entry, a received one, or one that is filled.
use Rattle.std.specs.Prelude.{◌%◌}
use Rattle.std.proofs.Common.{◌∙◌, ap, sym, arith}
use Rattle.std.proofs.lemmas.Bool.{not-true, not-false}
use Rattle.lists.specs.Options.{maybe}
use Rattle.protocol.specs.{Tickets.{entry, filled}, declared.Rule.TheVariants.DataFilled}
use Rattle.memory.specs.View.{table_part, table_changed}
use Rattle.deliver.specs.{Effect.{quiet, data_effect}, View.effect_of}
use Rattle.deliver.proofs.arrive.data_in.Goals as goal
use Rattle.deliver.proofs.arrive.data_in.Goals.{in_default-via-in-Some+else-not-e, in_default-via-in_default}

pub returns-in-Some : goal.returns-in-Some
unfolding effect_of data_effect
returns-in-Some c =
    let a = c.args in
    let found = ap (λ l. entry l a.sender a.sn) (table_part a.m.now) ∙ sym c.find.ensures ∙ ap maybe c.in-Some.is in
    rw c.quiet.ensures (ap (quiet DataFilled) (table_changed a.m.now c.fill.new.ws c.requires (omega arith) (filled a.sender a.sn a.value (a.hops % 8)) c.fill.ensures.row.items)
    ∙ rw (found, not-true c.in-Some.e.received c.if-not-e.true))

pub returns-in_default : goal.returns-in_default
unfolding effect_of data_effect
returns-in_default c =
    let a = c.args in
    let found = ap (λ l. entry l a.sender a.sn) (table_part a.m.now) ∙ sym c.find.ensures in
    rw (c.quiet-in_default.ensures, found) (elim c.in_default.branch [
      | in_default-via-in-Some+else-not-e w ↦ rw (w.in-Some.is, not-false w.in-Some.e.received w.if-not-e.false)
      | in_default-via-in_default w ↦ rw w.in_default.is
    ])
