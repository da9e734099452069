use Rattle.std.proofs.Common.{arith, rules, inl, inr}
use Rattle.sends.specs.{InMemory.{ticket_found, ticket_new}, Ticket.table_by}
use Rattle.protocol.specs.Sending.{local_entry}
use Rattle.sends.proofs.ticket.take_ticket.Goals as goal

pub returns-in-Remote : goal.returns-in-Remote
unfolding table_by
returns-in-Remote c = elim c.in-Remote.is [ inl e ↦ rw e | inr e ↦ rw e ]

pub returns-in-Found : goal.returns-in-Found
returns-in-Found c =
    let a = c.args in
    rw c.in-Found.is (ticket_found a.y.now c.fill.new.ws (search rules) (omega arith) a.m _ (search rules) c.fill.ensures.row.items)

pub returns-in-New : goal.returns-in-New
returns-in-New c =
    let a = c.args in
    unfold local_entry in
    rw c.in-New.is (ticket_new a.y.now c.push.new.ws (search rules) (omega arith) a.m _ (search rules) (search rules) c.push.ensures.row.items)
