use Rattle.std.proofs.Common.{ap, ◌∙◌, arith, rules}
use Rattle.protocol.specs.Tickets.{fill}
use Rattle.tickets.specs.{Table.packed, Fits.entry_at, Change.{fill_there, fill_none}}
use Rattle.tickets.proofs.fill.Goals as goal

pub returns-in-Some : goal.returns-in-Some
unfolding fill
returns-in-Some c =
    let a = c.args in
    let p = fill_there a.ws.now a.sender a.sn (search rules) c.in-Some.i c.in-Some.ensures.is c.pack.result c.write.ensures c.in-Some.ensures.within a.value a.hops (c.pack.ensures ∙ ap (λ e. packed (fill a.value a.hops e)) (c.at.ensures ∙ entry_at a.ws.now c.in-Some.i)) in
    record { row = p.0; words = p.1 }

pub returns-in_default : goal.returns-in_default
returns-in_default c =
    let a = c.args in
    let p = fill_none a.ws.now a.sender a.sn (search rules) _ c.in_default.ensures.is (omega arith) a.value a.hops in
    record { row = p.0; words = p.1 }
