-- A frame judged, then machines that have caught up settle.
use Rattle.std.specs.Prelude.{◌≡◌, refl, Bool, true, false, cond, List, [], ◌∷◌}
use Rattle.lists.specs.Questions.{Question, ◌asks◌, put_all}
use Rattle.protocol.specs.{declared.Answer.Answer, declared.Answer.TheVariants.{Accepted, Shown, Lost, Refused}, Parts.State, Restart.settle, Step.{Outcome, judged}}

-- whoever is done catching up after an accepted frame is done
unfoldable pub settles : Answer → Bool
settles (Accepted r) = true
settles (Shown h s) = true
settles Lost = false
settles (Refused n) = false

unfoldable pub settle_after : Outcome → Outcome
settle_after o = record { state = cond (settles o.answer) (settle o.state) o.state; answer = o.answer }

-- a refusal is left alone
pub judged_settles : (s : State) (l : List Question) (x o : Outcome) → x ≡ settle_after o → judged s (put_all l x) ≡ settle_after (judged s (put_all l o))
unfolding judged put_all settle_after settles
judged_settles s [] x o e = e
judged_settles s (n asks true ∷ l) x o e = judged_settles s l x o e
judged_settles s (n asks false ∷ l) x o e = refl
