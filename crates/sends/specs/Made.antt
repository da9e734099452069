-- The sends of a chare, judged and made where the store stands.
use Rattle.std.specs.Prelude.{◌≡◌, refl, List, [], ◌∷◌, ◌++◌, ℕ, length}
use Rattle.std.proofs.Common.{sym, ap, ◌∙◌, ne_eqb, le-leb}
use Rattle.lists.specs.Questions.{Yes, yes_put, put_first, first_no, first_no_yes}
use Rattle.protocol.specs.{declared.Rule.TheVariants.Other, declared.Answer.TheVariants.{Accepted, Refused}, Parts.{State, Job}, Sending.{send, send_all}, Work.{receivers, ports, port}}
use Rattle.protocol.specs.{Questions.{put_to_all, wire_fits}, Step.judged}
use Rattle.store.specs.{Places.STORE, View.{view, outcome}}
use Rattle.sends.specs.{declared.plan.Plan.Plan, Plan.{plan_of, plan_after}, Reading.wire_top, Ticket.message_after, Stored.to_sent, SecondLaws.after_first}
use Rattle.sends.specs.{Sends.{one_verdict, two_verdict, sends_questions, tried_sends, one_judged, two_judged}, Sendable.{plan_fits, rest_yes, is_made}}

-- n is the first question answered "no", and then no word changes; 0 is none, and then the messages are sent
pub record Made (before after : List ℕ) (a : ℕ) (l : List ℕ) (v h n : ℕ) : Type 0 where
  pub said : n ≡ first_no (sends_questions (view before) a l v h)
  pub stays : (n ≡ 0 → ⊥) → after ≡ before
  pub made : n ≡ 0 → view after ≡ send_all (view before) a l v h

module _ {xs : List ℕ} {a : ℕ} {l : List ℕ} {v h : ℕ} where
  pub none_sent : {n : ℕ} → n ≡ first_no (sends_questions (view xs) a l v h) → (n ≡ 0 → ⊥) → Made xs xs a l v h n
  none_sent said f = record { said = said; stays = λ _. refl; made = λ z. absurd (f z) }

  all_sent : 0 ≡ first_no (sends_questions (view xs) a l v h) → {ys : List ℕ} → (Yes (sends_questions (view xs) a l v h) → view ys ≡ send_all (view xs) a l v h) → Made xs ys a l v h 0
  unfolding sends_questions
  all_sent said e = record { said = said; stays = λ f. absurd (f refl); made = λ _. e (first_no_yes (sends_questions (view xs) a l v h) refl (sym said)) }

module _ (xs : List ℕ) (a b v h : ℕ) (p : Plan) (p-is : p ≡ plan_of (view xs) a b) (log wire : ℕ)
    (log_is : log ≡ length ((view xs).live a).log) (wire_is : wire ≡ length (view xs).wire) where
  pub one_said : {n : ℕ} → n ≡ one_verdict p log wire → n ≡ first_no (sends_questions (view xs) a (b ∷ []) v h)
  one_said n-is = n-is ∙ rw (p-is, log_is, wire_is) (sym (one_judged (view xs) a b v h))

  pub one_made : 0 ≡ one_verdict p log wire → (ys : List ℕ) → view ys ≡ to_sent (view xs) (message_after a b (((view xs).live a).sn b) v h) p.ticket → Made xs ys a (b ∷ []) v h 0
  unfolding send_all
  one_made z ys e = all_sent (one_said z) (λ y. e ∙ rw p-is (is_made a v h (view xs) b [] y))

  module _ (d : ℕ) (q : Plan) (q-is : q ≡ plan_after (view xs) a b p.ticket d) where
    pub two_said : {n : ℕ} → n ≡ two_verdict p q log wire → n ≡ first_no (sends_questions (view xs) a (b ∷ d ∷ []) v h)
    two_said n-is = n-is ∙ rw (q-is, p-is, log_is, wire_is) (sym (two_judged (view xs) a b v h d))

    pub two_made : 0 ≡ two_verdict p q log wire → (ys : List ℕ) → view ys ≡ to_sent (view xs) (message_after a b (((view xs).live a).sn b) v h) p.ticket
        → (zs : List ℕ) → view zs ≡ to_sent (view ys) (message_after a d (((view ys).live a).sn d) v h) q.ticket → Made xs zs a (b ∷ d ∷ []) v h 0
    unfolding send_all
    two_made z ys e zs g = all_sent (two_said z) (λ y.
        let s = view xs in
        let one : view ys ≡ send s a b v h = e ∙ rw p-is (is_made a v h s b (d ∷ []) y) in
        g ∙ rw (one, q-is, p-is, ← after_first s a b v h d (plan_fits a v h s b (d ∷ []) y)) (is_made a v h (send s a b v h) d [] (rest_yes a v h s b (d ∷ []) y)))

-- nobody to send to
pub none_made : (xs : List ℕ) → length xs ≡ STORE → (a v h : ℕ) → Made xs xs a [] v h 0
unfolding sends_questions put_to_all send_all wire_fits first_no
none_made xs size a v h = record { said = rw (le-leb (length (view xs).wire) 128 (wire_top xs size)); stays = λ _. refl; made = λ _. refl }

-- the receivers, by the ports
pub by_ports : (j : Job) (c hops b d : ℕ) → (hops ≡ 0 → ⊥) → b ≡ j.first c → d ≡ j.second c → receivers (ports j) c hops ≡ port b ++ port d
unfolding receivers ports
by_ports j c hops b d f b-is d-is = rw (ne_eqb hops 0 f, b-is, d-is)

-- ---- what a frame then answers: s is the state before it, ws the store where its sends were judged
module _ (s : State) {ws ys : List ℕ} {a : ℕ} {l : List ℕ} {v h n : ℕ} (m : Made ws ys a l v h n) where
  pub sends_made : n ≡ 0 → tried_sends s (view ws) a l v h ≡ outcome ys (Accepted Other)
  unfolding outcome tried_sends judged sends_questions
  sends_made z = ap (judged s) (yes_put (sends_questions (view ws) a l v h) _ (first_no_yes (sends_questions (view ws) a l v h) refl (sym m.said ∙ z))) ∙ rw (m.made z)

  pub sends_refused : (n ≡ 0 → ⊥) → tried_sends s (view ws) a l v h ≡ record { state = s; answer = Refused n }
  unfolding tried_sends judged
  sends_refused f = ap (judged s) (put_first (sends_questions (view ws) a l v h) _ (λ z. f (m.said ∙ z))) ∙ rw (← m.said)
