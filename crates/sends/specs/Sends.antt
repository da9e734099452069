-- The questions 7 to 11 for none, one or two sends, by their plans.
use Rattle.std.specs.Prelude.{◌≡◌, refl, Bool, true, false, ◌&&◌, List, [], ◌∷◌, ℕ, ◌+◌, length, ltb, leb}
use Rattle.std.proofs.Common.{subst, ◌∙◌, arith, add-one, ltb-true, ltb-false, le-leb, lt-ltb}
use Rattle.std.proofs.Math.Bool.{and-true, and-false}
use Rattle.std.proofs.lemmas.Bool.{lt-leb}
use Rattle.lists.specs.{Tests.{either, and_l, and_r}, Questions.{Question, ◌asks◌, put_all, first_no}}
use Rattle.protocol.specs.{declared.Rule.TheVariants.Other, Parts.State, Sending.{send, send_all}}
use Rattle.protocol.specs.{Questions.{numbers_fit, window_admits, log_has_room, table_has_room, wire_fits, put_to_all}, Step.{Outcome, judged}}
use Rattle.store.specs.View.{done}
use Rattle.sends.specs.{declared.plan.Plan.Plan, Ticket.{fits, growth, message_after}, Plan.{plan_of, plan_after}, PlanLaws.{Judges, judges}}
use Rattle.sends.specs.{Sent.{sent_by, ticketed_by, wire_grown, log_after}, SecondLaws.after_first}

unfoldable pub sends_questions : State → ℕ → List ℕ → ℕ → ℕ → List Question
sends_questions s a l v h =
    7 asks put_to_all numbers_fit s a l v h
    ∷ 8 asks put_to_all window_admits s a l v h
    ∷ 9 asks put_to_all log_has_room s a l v h
    ∷ 10 asks put_to_all table_has_room s a l v h
    ∷ 11 asks wire_fits (send_all s a l v h)
    ∷ []

-- the sends made in w, or s as it was
unfoldable pub tried_sends : State → State → ℕ → List ℕ → ℕ → ℕ → Outcome
tried_sends s w a l v h = judged s (put_all (sends_questions w a l v h) (done Other (send_all w a l v h)))

-- the first "no" of 7 to 11 by the plans, from the lengths of the sender's log and of the wire
unfoldable pub one_verdict : Plan → ℕ → ℕ → ℕ
one_verdict p log wire = first_no (7 asks fits p.ticket ∷ 8 asks p.admits ∷ 9 asks leb (log + 1) 16 ∷ 10 asks p.room ∷ 11 asks leb (wire + growth p.ticket) 128 ∷ [])

unfoldable pub two_verdict : Plan → Plan → ℕ → ℕ → ℕ
two_verdict p q log wire =
    first_no (
    7 asks (fits p.ticket && fits q.ticket)
    ∷ 8 asks (p.admits && q.admits)
    ∷ 9 asks leb (log + 2) 16
    ∷ 10 asks (p.room && q.room)
    ∷ 11 asks leb (wire + growth p.ticket + growth q.ticket) 128
    ∷ [])

-- the later questions count only where the first is answered "yes"
first_no_guard : (n : ℕ) (p q : Bool) (l m : List Question) → p ≡ q → (q ≡ true → l ≡ m) → first_no (n asks p ∷ l) ≡ first_no (n asks q ∷ m)
unfolding first_no
first_no_guard n p true l m e f = rw (e, f refl)
first_no_guard n p false l m e f = rw e

both_less : (n : ℕ) → (ltb n 16 && ltb (n + 1) 16) ≡ leb (n + 2) 16
both_less n = either (ltb (n + 1) 16)
    (λ e. let g = ltb-true (n + 1) 16 e in rw (e, lt-ltb n 16 (omega arith), le-leb (n + 2) 16 (omega arith)))
    (λ e. let g = ltb-false (n + 1) 16 e in rw (e, and-false (ltb n 16), lt-leb (n + 2) 16 (omega arith)))

-- ---- one send
module _ (s : State) (a b v h : ℕ) where
  pub first_wire : fits (plan_of s a b).ticket ≡ true → length (send s a b v h).wire ≡ length s.wire + growth (plan_of s a b).ticket
  unfolding sent_by ticketed_by
  first_wire f = rw ((judges s a b).sends f v h) (wire_grown s.wire (message_after a b ((s.live a).sn b) v h) (plan_of s a b).ticket)

  first_log : fits (plan_of s a b).ticket ≡ true → length ((send s a b v h).live a).log ≡ length (s.live a).log + 1
  first_log f = rw ((judges s a b).sends f v h) (log_after s (message_after a b ((s.live a).sn b) v h) (plan_of s a b).ticket)

  pub one_judged : first_no (sends_questions s a (b ∷ []) v h) ≡ one_verdict (plan_of s a b) (length (s.live a).log) (length s.wire)
  unfolding one_verdict sends_questions put_to_all send_all wire_fits log_has_room
  one_judged =
      let j = judges s a b in
      first_no_guard 7 _ _ _ _ (and-true (numbers_fit s a b) ∙ j.numbers) (λ f. simp (and-true, j.window f, add-one, j.table f, first_wire f))

-- ---- two sends, the second as if the first were made
module _ (s : State) (a b v h d : ℕ) where
  abbrev first : Plan
  first = plan_of s a b

  abbrev second : Plan
  second = plan_after s a b first.ticket d

  second_judges : fits first.ticket ≡ true → Judges (send s a b v h) a d second
  second_judges f = subst (Judges (send s a b v h) a d) (after_first s a b v h d f) (judges (send s a b v h) a d)

  both_fit : (numbers_fit s a b && (numbers_fit (send s a b v h) a d && true)) ≡ (fits first.ticket && fits second.ticket)
  both_fit = rw (judges s a b).numbers (either (fits first.ticket)
      (λ f. rw f (and-true (numbers_fit (send s a b v h) a d) ∙ (second_judges f).numbers))
      (λ f. rw f))

  second_wire : fits first.ticket ≡ true → fits second.ticket ≡ true
      → length (send (send s a b v h) a d v h).wire ≡ length s.wire + growth first.ticket + growth second.ticket
  second_wire f g =
      let e = after_first s a b v h d f in
      first_wire (send s a b v h) a d v h (rw e g) ∙ rw (e, first_wire s a b v h f)

  pub two_judged : first_no (sends_questions s a (b ∷ d ∷ []) v h) ≡ two_verdict first second (length (s.live a).log) (length s.wire)
  unfolding two_verdict sends_questions put_to_all send_all wire_fits log_has_room
  two_judged =
      first_no_guard 7 _ _ _ _ both_fit
      (λ f.
      let f1 = and_l (fits first.ticket) (fits second.ticket) f in
      let f2 = and_r (fits first.ticket) (fits second.ticket) f in
      let j = judges s a b in
      let k = second_judges f1 in
      simp (and-true, j.window f1, k.window f2, first_log s a b v h f1, both_less, j.table f1, k.table f2, second_wire f1 f2))
