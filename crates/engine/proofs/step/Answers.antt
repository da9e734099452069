-- `step` meets its contract: no frame, or what it does and then what settles.
use Rattle.std.specs.Prelude.{refl}
use Rattle.std.proofs.Common.{sym, ◌∙◌}
use Rattle.engine.specs.{Play.settles, Stepped.{unread, stepped, left}}
use Rattle.engine.proofs.step.Goals as goal

pub returns-in_default : goal.returns-in_default
returns-in_default c = rw c.number.ensures (unread _ _ c.in_default.ensures)

pub returns-then-is_accepted : goal.returns-then-is_accepted
returns-then-is_accepted c =
    stepped _ _ _ _ _ c.in-Some.ensures c.in-Ok.ensures.framed (sym c.is_accepted.ensures ∙ c.if-is_accepted.true) _ c.settle.ensures

pub returns-else-is_accepted : goal.returns-else-is_accepted
returns-else-is_accepted c =
    left _ _ _ _ _ c.in-Some.ensures c.in-Ok.ensures.framed (sym c.is_accepted.ensures ∙ c.if-is_accepted.false)

pub returns-in-Err : goal.returns-in-Err
unfolding settles
returns-in-Err c = rw c.number-in-Err.ensures (left _ _ _ _ _ c.in-Some.ensures c.in-Err.ensures.framed refl)
