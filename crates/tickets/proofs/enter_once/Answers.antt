use Rattle.std.proofs.Common.{sym, ◌∙◌, arith, rules}
use Rattle.tickets.specs.Enter.{enter_double, enter_full, enter_room}
use Rattle.tickets.proofs.enter_once.Goals as goal

pub returns-then-is_some : goal.returns-then-is_some
returns-then-is_some c = enter_double _ _ (search rules) _ c.seek.result c.seek.ensures.is c.seek.ensures.within _ (sym c.is_some.ensures ∙ c.if-is_some.true)

pub returns-then-ws-count : goal.returns-then-ws-count
returns-then-ws-count c =
    enter_full _ _ (search rules) _ c.seek.result c.seek.ensures.is c.seek.ensures.within _ (sym c.is_some.ensures ∙ c.if-is_some.false) (omega arith)

pub returns : goal.returns
returns c =
    enter_room _ _ (search rules) _ c.seek.result c.seek.ensures.is c.seek.ensures.within _ _ (sym c.is_some.ensures ∙ c.if-is_some.false) (omega arith) (omega arith) c.enter.ensures.row c.enter.ensures.words
