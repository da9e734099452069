-- Frame 12: what working the next TN leaves, and its questions in three parts.
use Rattle.std.specs.Prelude.{◌≡◌, refl, Bool, true, false, ◌&&◌, List, [], ◌∷◌, ◌++◌, ℕ, ◌+◌, leb}
use Rattle.std.proofs.Common.{ap, ◌∙◌}
use Rattle.std.proofs.Math.Option.{Option, some, none}
use Rattle.lists.specs.Questions.{Question, ◌asks◌, put_all, first_no}
use Rattle.protocol.specs.{declared.Entry.Entry, declared.Rule.TheVariants.Other, declared.Answer.TheVariants.Refused, Working.{worked_only, work_next, value_out, hops_out, receivers_of}}
use Rattle.protocol.specs.{Parts.{State, Memory}, Questions.{mark_after, entry_questions, put_to_sends}, Step.{Outcome, judged}}
use Rattle.head.specs.Head.{chare_asked}
use Rattle.store.specs.View.{done}
use Rattle.sends.specs.{Sends.{sends_questions, tried_sends}, Verdict.{stopped, passed}}

-- the state after a work: with no next entry it stays
unfoldable pub worked_state : State → ℕ → Option Entry → State
worked_state s c none = s
worked_state s c (some e) = work_next s c e

-- 2 to 5
abbrev pub chare_questions : State → ℕ → List Question
chare_questions s c = chare_asked s.job s.lost s.status c

-- 6 to 11
unfoldable pub tried_work : State → ℕ → Option Entry → Outcome
tried_work s c o = judged s (put_all (entry_questions s c o) (done Other (worked_state s c o)))

-- 6, and 7 of the chare that works
unfoldable pub own_questions : Memory → Entry → List Question
own_questions m e = 6 asks (e.received && e.noted) ∷ 7 asks (leb (m.height + 1) 60000 && leb (mark_after m e) 60000) ∷ []

-- 7 in two parts: the chare's own, then the sends'
in_parts : (p x y z : Bool) (l : List Question) (o : Outcome)
    → put_all (6 asks p ∷ 7 asks (x && y && z) ∷ l) o ≡ put_all (6 asks p ∷ 7 asks (x && y) ∷ 7 asks z ∷ l) o
unfolding put_all
in_parts true true true z l o = refl
in_parts true true false z l o = refl
in_parts true false y z l o = refl
in_parts false x y z l o = refl

module _ (s : State) (c : ℕ) (e : Entry) where
  abbrev own : List Question
  own = own_questions (s.live c) e

  abbrev others : List Question
  others = sends_questions (worked_only s c e) c (receivers_of s c e) (value_out s c e) (hops_out e)

  asked : tried_work s c (some e) ≡ judged s (put_all (own ++ others) (done Other (work_next s c e)))
  unfolding tried_work entry_questions own_questions worked_state work_next put_to_sends sends_questions
  asked = ap (judged s) (in_parts (e.received && e.noted) (leb ((s.live c).height + 1) 60000) (leb (mark_after (s.live c) e) 60000) _ _ _)

  pub own_refused : (first_no own ≡ 0 → ⊥) → tried_work s c (some e) ≡ record { state = s; answer = Refused (first_no own) }
  own_refused h = asked ∙ stopped s own others _ h

  pub own_passed : first_no own ≡ 0
      → tried_work s c (some e) ≡ tried_sends s (worked_only s c e) c (receivers_of s c e) (value_out s c e) (hops_out e)
  unfolding tried_sends own_questions work_next
  own_passed h = asked ∙ passed s own others _ refl h
