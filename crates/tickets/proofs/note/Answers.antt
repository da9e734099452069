use Rattle.std.proofs.Common.{ap, ◌∙◌, arith, rules}
use Rattle.protocol.specs.Tickets.{mark_noted}
use Rattle.tickets.specs.{Table.{entry_of, packed}, Change.{note_there, note_none}}
use Rattle.tickets.proofs.note.Goals as goal

pub returns-in-Some : goal.returns-in-Some
returns-in-Some c =
    let a = c.args in
    let p = note_there a.ws.now a.sender a.sn (search rules) c.in-Some.i c.in-Some.ensures.is c.noted-w.result c.write.ensures c.in-Some.ensures.within (c.noted-w.ensures ∙ ap (λ w. packed (mark_noted (entry_of w))) c.read.ensures) in
    record { row = p.0; words = p.1 }

pub returns-in_default : goal.returns-in_default
returns-in_default c =
    let a = c.args in
    let p = note_none a.ws.now a.sender a.sn (search rules) _ c.in_default.ensures.is (omega arith) in
    record { row = p.0; words = p.1 }
