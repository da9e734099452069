use Rattle.std.proofs.Common.{arith, rules}
use Rattle.store.specs.ViewLaws.{span}
use Rattle.sends.specs.Stored.{sent_at}
use Rattle.sends.proofs.send.Goals as goal

pub take_ticket-requires : goal.take_ticket-requires
take_ticket-requires c =
    record { y_len = search rules; sender_bound = rw c.message_after-m.ensures (c.requires.0, c.requires.2) }

pub log_message-requires : goal.log_message-requires
log_message-requires c =
    record {
      x_len = search rules;
      sender_bound = rw c.message_after-m.ensures (c.requires.0, c.requires.1, c.requires.2);
    }

pub put-requires : goal.put-requires
put-requires c =
    record { ws_len = search rules; sender_bound = rw c.message_after-m.ensures (c.requires.0, c.requires.1) }

pub returns : goal.returns
returns c =
    let a = c.args in
    let e = span a.b in
    let f = span a.a in
    rw (e, f) (sent_at a.s.now c.told-s a.a a.b a.value a.hops a.k c.requires.0 c.requires.1 _ (rw (← c.last_sn.ensures) c.message_after-m.ensures)
    c.take_ticket.new.y (omega arith) (rw e at c.take_ticket.ensures) c.log_message.new.x (omega arith) _ c.tn.ensures (rw (e, f) at c.log_message.ensures)
    c.put.new.ws (omega arith) (rw (e, f) at c.put.ensures.row.items))
