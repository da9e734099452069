-- A restart judged: the questions in order.
use Rattle.std.specs.Prelude.{◌≡◌, refl, not, List, [], ◌∷◌, ◌≢◌, ℕ}
use Rattle.std.proofs.Common.{sym, ap, ◌∙◌}
use Rattle.lists.specs.Questions.{Question, ◌asks◌, put_all, put_no, put_after, first_no, first_no_yes}
use Rattle.protocol.specs.{declared.Rule.TheVariants.Other, declared.Answer.TheVariants.Refused, Parts.{State, is_down}, Restart.restart}
use Rattle.protocol.specs.{Questions.{restart_questions, is_machine, tables_fit, wire_fits}, Step.{Outcome, judged}}
use Rattle.store.specs.View.{done, tried}

-- the questions 2 to 5, and those behind them
unfoldable pub asked : State → ℕ → List Question
asked s p = 2 asks s.job.set ∷ 3 asks is_machine s p ∷ 4 asks not s.lost ∷ 5 asks is_down (s.status p) ∷ []

module _ (s : State) (p : ℕ) where
  abbrev rest : List Question
  rest = 10 asks tables_fit s p ∷ 11 asks wire_fits (restart s p) ∷ []

  abbrev end : Outcome
  end = done Other (restart s p)

  pub early : (n : ℕ) → n ≡ first_no (asked s p) → n ≢ 0 → tried s (restart_questions s p) (restart s p) ≡ record { state = s; answer = Refused n }
  unfolding tried restart_questions judged asked
  early n e h = rw (put_no (asked s p) rest end (λ z. h (e ∙ z)), ← e)

  pub late : 0 ≡ first_no (asked s p) → tried s (restart_questions s p) (restart s p) ≡ judged s (put_all rest end)
  unfolding tried restart_questions asked
  late e = ap (judged s) (put_after (asked s p) rest end (first_no_yes (asked s p) refl (sym e)))
