-- The plan of a second send, after a first one.
use Rattle.std.specs.Prelude.{◌≡◌, refl, Bool, true, [], ◌∷◌, ◌++◌, ℕ, ◌+◌, length}
use Rattle.std.proofs.Common.{◌∙◌, inl, inr, arith, eq-eqb, ne_eqb, length-append}
use Rattle.lists.specs.{Tests.eq?, Map.{upd, upd_same, upd_other}}
use Rattle.protocol.specs.{declared.Message.Message, Parts.{State, Memory}, Tickets.new_tn, Sending.{local_entry, is_local, send}, Packets.seen}
use Rattle.protocol.proofs.{Recovery.Laws.Lookups.length_filled}
use Rattle.sends.specs.{declared.ticket.Ticket.Ticket, declared.ticket.Ticket.TheVariants.{Remote, Found, New, TooHigh}}
use Rattle.sends.specs.{Ticket.{fits, is_new, tn_of, table_by, log_by, snoc, message_after}, Entries.{entry_filled, next_filled, entry_more, next_after}}
use Rattle.sends.specs.{Sent.{ticketed_by, sent_by, sent, keeps, table_after, sn_after}, PlanLaws.judges}
use Rattle.sends.specs.Plan.{plan_for, plan_with, plan_of, plan_after, last_after, base_after, extra_after}

-- to the same receiver: the table as the first send left it, or the table before it with the first ticket's TN and entry
same_receiver : (near : Bool) (y : Memory) (a : ℕ) (m : Message) (k : Ticket) → (is_new k ≡ true → tn_of k ≡ new_tn y)
    → plan_for near (table_by snoc y.table m k) y.highest_at_restart (seen y a) a m.sn y.height 0
    ≡ plan_for near y.table y.highest_at_restart (seen y a) a m.sn (base_after true k y.height) (extra_after true k)
unfolding plan_for table_by base_after extra_after is_new tn_of local_entry
same_receiver near y a m Remote new = refl
same_receiver near y a m (Found t) new =
    rw (entry_filled m.sender m.sn m.value m.hops y.table a, next_filled m.sender m.sn m.value m.hops y.height y.highest_at_restart y.table, length_filled)
same_receiver near y a m (New t) new =
    let e : length (y.table ++ (local_entry m t ∷ [])) + 0 ≡ length y.table + 1 = omega (arith, length-append y.table (local_entry m t ∷ [])) in
    rw (entry_more y.table m t a, next_after y (local_entry m t) (new refl), e)
same_receiver near y a m TooHigh new = refl

module _ (s : State) (a b v h : ℕ) (k : Ticket) (new : is_new k ≡ true → tn_of k ≡ new_tn (s.live b)) (d : ℕ) where
  abbrev m : Message
  m = message_after a b ((s.live a).sn b) v h

  second_plan : plan_of (sent s m k) a d ≡ plan_after s a b k d
  unfolding plan_of plan_after plan_with last_after base_after extra_after sent_by ticketed_by log_by
  second_plan =
      let table = upd b (table_by snoc (s.live b).table m k) (λ i. (s.live i).table) d in
      let last = upd b m.sn (s.live a).sn d in
      rw (table_after s m k d, sn_after s m k)
      (keeps s m k (λ y. plan_for (is_local s.job a d) table y.highest_at_restart (seen y a) a last y.height 0) (λ y l. refl) (λ y t. refl) d
      ∙ elim (eq? d b) [
        | inl e ↦ rw (e, eq-eqb b b refl, upd_same b m.sn, upd_same b) (same_receiver (is_local s.job a b) (s.live b) a m k new)
        | inr n ↦ rw (ne_eqb d b n, upd_other b m.sn (s.live a).sn d n, upd_other b (table_by snoc (s.live b).table m k) (λ i. (s.live i).table) d n)
      ])

-- after a first send from a to b
pub after_first : (s : State) (a b v h d : ℕ) → fits (plan_of s a b).ticket ≡ true → plan_of (send s a b v h) a d ≡ plan_after s a b (plan_of s a b).ticket d
after_first s a b v h d f = rw ((judges s a b).sends f v h) (second_plan s a b v h (plan_of s a b).ticket (λ e. ((judges s a b).new e).1) d)
