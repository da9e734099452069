-- Frame 10: the desk's message. From 7 on its questions are those of one send.
use Rattle.std.specs.Prelude.{◌≡◌, ◌≢◌, refl, Bool, true, false, not, ◌&&◌, List, [], ◌∷◌, ◌++◌, ℕ, ◌<◌, leb}
use Rattle.std.proofs.Common.{sym, ◌∙◌, arith, leb-true}
use Rattle.std.proofs.Math.Bool.{and-true}
use Rattle.lists.specs.{Questions.{Question, ◌asks◌, first_no, first_no_yes}, Tests.{and_l, and_r}}
use Rattle.protocol.specs.{declared.Rule.TheVariants.Other, declared.Answer.TheVariants.{Accepted, Refused}, Parts.State, Step.Outcome}
use Rattle.protocol.specs.{Questions.{inject_questions, is_chare, put_to_all}, Sending.{send, send_all}}
use Rattle.store.specs.{View.{view, tried, Framed}, Framing.{refuses as refused, accepts as accepted, chare_in}}
use Rattle.sends.specs.{Made.{Made, sends_made, sends_refused}, Sends.{sends_questions, tried_sends}, Verdict.{stopped, passed}}

-- 2 to 4
unfoldable pub desk_questions : State → ℕ → ℕ → List Question
desk_questions s c h = 2 asks s.job.set ∷ 3 asks (is_chare s c && leb h 7) ∷ 4 asks not s.lost ∷ []

-- the desk puts no question 5: a "yes" in its place changes nothing
pub not_put : (a b c : Bool) → first_no (2 asks a ∷ 3 asks b ∷ 4 asks c ∷ 5 asks true ∷ []) ≡ first_no (2 asks a ∷ 3 asks b ∷ 4 asks c ∷ [])
unfolding first_no
not_put true true true = refl
not_put true true false = refl
not_put true false c = refl
not_put false b c = refl

inject_asked : (s : State) (c v h : ℕ) → inject_questions s c v h ≡ desk_questions s c h ++ sends_questions s 0 (c ∷ []) v h
unfolding inject_questions desk_questions sends_questions put_to_all send_all
inject_asked s c v h = simp and-true

-- ---- where the store stands
module _ (xs : List ℕ) (c v h : ℕ) where
  abbrev injected : Outcome
  injected = tried (view xs) (inject_questions (view xs) c v h) (send (view xs) 0 c v h)

  pub inject_refused : (n : ℕ) → n ≡ first_no (desk_questions (view xs) c h) → (n ≡ 0 → ⊥) → Framed xs xs (Refused n) injected
  unfolding tried
  inject_refused n e f =
      refused xs n (rw (inject_asked (view xs) c v h) (stopped (view xs) (desk_questions (view xs) c h) _ _ (λ z. f (e ∙ z)) ∙ rw (← e)))

  module _ (z : 0 ≡ first_no (desk_questions (view xs) c h)) where
    in_range : (is_chare (view xs) c && leb h 7) ≡ true
    unfolding desk_questions
    in_range = (first_no_yes (desk_questions (view xs) c h) refl (sym z)).1.0

    pub index : c < 13
    unfolding is_chare
    index = chare_in xs c (and_l (is_chare (view xs) c) (leb h 7) in_range)

    pub hops_in : h < 8
    hops_in = omega (arith, leb-true h 7 (and_r (is_chare (view xs) c) (leb h 7) in_range))

    -- the send is made or refused
    module _ (ys : List ℕ) {k : ℕ} (m : Made xs ys 0 (c ∷ []) v h k) where
      asked : injected ≡ tried_sends (view xs) (view xs) 0 (c ∷ []) v h
      unfolding tried tried_sends desk_questions send_all
      asked = rw (inject_asked (view xs) c v h) (passed (view xs) (desk_questions (view xs) c h) _ _ refl (sym z))

      pub not_sent : k ≢ 0 → Framed xs ys (Refused k) injected
      not_sent f = rw (m.stays f) (refused xs k (asked ∙ sends_refused (view xs) m f))

      pub is_sent : k ≡ 0 → Framed xs ys (Accepted Other) injected
      is_sent e = accepted xs ys (asked ∙ sends_made (view xs) m e)
