-- Sends whose questions are answered "yes": there is room for the first of them, which is then made as the definitions say.
use Rattle.std.specs.Prelude.{◌≡◌, true, List, [], ◌∷◌, ℕ, ◌≤◌, length}
use Rattle.std.proofs.Common.{sym, ◌∙◌, arith, leb-true, ltb-true}
use Rattle.lists.specs.{Tests.{and_l, and_r}, Questions.Yes}
use Rattle.protocol.specs.{Parts.State, Sending.{send, send_all}, Questions.{numbers_fit, window_admits, log_has_room, table_has_room, wire_fits, put_to_all}}
use Rattle.sends.specs.{Ticket.{fits, message_after}, Plan.plan_of, PlanLaws.judges, Sends.{sends_questions, first_wire}, Stored.{to_sent, room_sent}}

module _ (a v h : ℕ) where
  -- the wire only grows
  wire_grows : (s : State) (l : List ℕ) → put_to_all numbers_fit s a l v h ≡ true → length s.wire ≤ length (send_all s a l v h).wire
  unfolding put_to_all send_all
  wire_grows s [] e = omega arith
  wire_grows s (b ∷ l) e =
      let g = first_wire s a b v h (sym (judges s a b).numbers ∙ and_l (numbers_fit s a b) _ e) in
      omega (arith, wire_grows (send s a b v h) l (and_r (numbers_fit s a b) _ e))

  module _ (s : State) (b : ℕ) (l : List ℕ) (yes : Yes (sends_questions s a (b ∷ l) v h)) where
    pub plan_fits : fits (plan_of s a b).ticket ≡ true
    unfolding sends_questions put_to_all
    plan_fits = sym (judges s a b).numbers ∙ and_l (numbers_fit s a b) _ yes.0

    -- those after it
    pub rest_yes : Yes (sends_questions (send s a b v h) a l v h)
    unfolding sends_questions put_to_all send_all
    rest_yes = (
      and_r (numbers_fit s a b) _ yes.0,
      (and_r (window_admits s a b) _ yes.1.0, (and_r (log_has_room s a b) _ yes.1.1.0, (and_r (table_has_room s a b) _ yes.1.1.1.0, yes.1.1.1.1))),
    )

    pub is_made : to_sent s (message_after a b ((s.live a).sn b) v h) (plan_of s a b).ticket ≡ send s a b v h
    unfolding sends_questions put_to_all send_all wire_fits log_has_room table_has_room
    is_made =
        let w = wire_grows (send s a b v h) l rest_yes.0 in
        let g = first_wire s a b v h plan_fits in
        room_sent s _ _ (ltb-true _ 16 (and_l (log_has_room s a b) _ yes.1.1.0))
        (λ e. ltb-true _ 16 (rw ((judges s a b).new e).0 at (and_l (table_has_room s a b) _ yes.1.1.1.0)))
        (omega (arith, leb-true (length (send_all s a (b ∷ l) v h).wire) 128 yes.1.1.1.1.0))
        ∙ sym ((judges s a b).sends plan_fits v h)
