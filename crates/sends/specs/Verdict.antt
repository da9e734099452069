-- A frame by the number of the first question that is answered "no": its questions in two parts.
use Rattle.std.specs.Prelude.{◌≡◌, true, List, ◌++◌}
use Rattle.std.proofs.Common.{ap}
use Rattle.lists.specs.Questions.{Question, numbered, put_all, first_no, first_no_yes, put_no, put_after}
use Rattle.protocol.specs.{declared.Answer.TheVariants.Refused, Parts.State, Step.{Outcome, judged}}

module _ (s : State) (f l : List Question) (o : Outcome) where
  pub stopped : (first_no f ≡ 0 → ⊥) → judged s (put_all (f ++ l) o) ≡ record { state = s; answer = Refused (first_no f) }
  unfolding judged
  stopped h = ap (judged s) (put_no f l o h)

  pub passed : numbered f ≡ true → first_no f ≡ 0 → judged s (put_all (f ++ l) o) ≡ judged s (put_all l o)
  passed k e = ap (judged s) (put_after f l o (first_no_yes f k e))
