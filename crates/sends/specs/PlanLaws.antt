-- What a plan says: the definitions' answers on its send, and what the send does.
use Rattle.std.specs.Prelude.{◌≡◌, refl, true, false, ℕ, ◌+◌, ltb, leb, length}
use Rattle.std.proofs.Common.{◌∙◌, arith, add-one}
use Rattle.std.proofs.Math.Option.{Option, some, none}
use Rattle.lists.specs.{Tests.{either, true_not_false}, Map.upd_self}
use Rattle.protocol.specs.{declared.Entry.Entry, Parts.State, Tickets.{entry, new_tn}, Packets.seen}
use Rattle.protocol.specs.{Sending.{is_local, send, send_message, send_remote, send_local, put, log_message, next_message}}
use Rattle.protocol.specs.{Questions.{numbers_fit, window_admits, table_has_room, takes_ticket, no_entry, sn_to_send}}
use Rattle.sends.specs.{declared.ticket.Ticket.Ticket, declared.ticket.Ticket.TheVariants.{Remote, Found, TooHigh}, declared.plan.Plan.Plan}
use Rattle.sends.specs.{Ticket.{fits, is_new, tn_of, table_by, wire_by, log_by, sn_next, message_after}, Sent.{ticketed_by, sent_by, sent}}
use Rattle.sends.specs.Plan.{idle, new_plan, local_plan, plan_for, plan_with, plan_of, base_after, extra_after}

pub record Judges (s : State) (a b : ℕ) (p : Plan) : Type 0 where
  pub numbers : numbers_fit s a b ≡ fits p.ticket
  pub new : is_new p.ticket ≡ true → (takes_ticket s a b ≡ true) × (tn_of p.ticket ≡ new_tn (s.live b))
  pub window : fits p.ticket ≡ true → window_admits s a b ≡ p.admits
  pub table : fits p.ticket ≡ true → table_has_room s a b ≡ p.room
  pub sends : fits p.ticket ≡ true → (v h : ℕ) → send s a b v h ≡ sent s (message_after a b ((s.live a).sn b) v h) p.ticket

module _ (s : State) (a b : ℕ) where
  -- 7 is answered "no"
  high : numbers_fit s a b ≡ false → Judges s a b (idle TooHigh)
  unfolding fits is_new idle
  high e = record {
    numbers = e;
    new = λ f. true_not_false f refl;
    window = λ f. true_not_false f refl;
    table = λ f. true_not_false f refl;
    sends = λ f. true_not_false f refl;
  }

  module _ (low : ltb ((s.live a).sn b) 60000 ≡ true) where
    -- no new ticket
    calm : (k : Ticket) → fits k ≡ true → is_new k ≡ false → takes_ticket s a b ≡ false
        → ((v h : ℕ) → send s a b v h ≡ sent s (message_after a b ((s.live a).sn b) v h) k) → Judges s a b (idle k)
    unfolding idle numbers_fit window_admits table_has_room sn_to_send
    calm k f n t d = record {
      numbers = rw (t, f, add-one ((s.live a).sn b), low);
      new = λ g. true_not_false g n;
      window = λ _. rw t;
      table = λ _. rw t;
      sends = λ _. d;
    }

    remote : is_local s.job a b ≡ false → Judges s a b (idle Remote)
    unfolding takes_ticket fits is_new send send_message send_remote put log_message next_message sn_next ticketed_by sent_by tn_of table_by wire_by log_by
    remote e = calm Remote refl refl (rw e) (λ v h. rw (e, low, upd_self b s.live))

    module _ (near : is_local s.job a b ≡ true) where
      by_entry : (o : Option Entry) → entry (s.live b).table a ((s.live a).sn b + 1) ≡ o
          → Judges s a b (local_plan (new_tn (s.live b)) (length (s.live b).table + 0) (seen (s.live b) a ((s.live a).sn b + 1)) o)
      unfolding takes_ticket fits is_new no_entry sn_to_send numbers_fit window_admits table_has_room local_plan new_plan
          send send_message send_local put log_message next_message sn_next ticketed_by sent_by tn_of table_by wire_by log_by
      by_entry (some x) e = calm (Found x.tn) refl refl (rw (near, e)) (λ v h. rw (near, low, e))
      by_entry none e =
          let taken : takes_ticket s a b ≡ true = rw (near, e) in
          let tn-fits : numbers_fit s a b ≡ leb (new_tn (s.live b)) 60000 = rw (taken, add-one ((s.live a).sn b), low) in
          let z : length (s.live b).table + 0 ≡ length (s.live b).table = omega arith in
          either (leb (new_tn (s.live b)) 60000)
          (λ f. rw f (record {
            numbers = tn-fits ∙ f;
            new = λ _. (taken, refl);
            window = λ _. rw taken;
            table = λ _. rw (taken, z);
            sends = λ _ v h. rw (near, low, e);
          }))
          (λ f. rw f (high (tn-fits ∙ f)))

  pub judges : Judges s a b (plan_of s a b)
  unfolding plan_of plan_with plan_for base_after extra_after new_tn numbers_fit sn_to_send
  judges = either (ltb ((s.live a).sn b) 60000)
      (λ e. rw e (either (is_local s.job a b) (λ f. rw f (by_entry e f (entry (s.live b).table a ((s.live a).sn b + 1)) refl)) (λ f. rw f (remote e f))))
      (λ e. rw e (high (rw (add-one ((s.live a).sn b), e))))
