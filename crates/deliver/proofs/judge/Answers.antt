-- `judge` puts questions 2 to 5; the third gives a name.
use Rattle.std.specs.Prelude.{◌≡◌, refl, Bool, true, false, [], ◌∷◌, ℕ, Result, Ok, Err, is_ok, IfOk, MatchResult}
use Rattle.std.proofs.Common.{◌∙◌, arith, rules}
use Rattle.std.proofs.lemmas.Result.{err_from_is_err_and}
use Rattle.lists.specs.Questions.{◌asks◌, first_no}
use Rattle.protocol.specs.{declared.Refusal.Refusal, Numbers.{refusal_of, number_not_zero}, Packets.destination}
use Rattle.head.specs.Head.{job_of, status_of, runs}
use Rattle.packets.specs.declared.Name.{Name}
use Rattle.deliver.specs.{Frame.first_questions, View.Names}
use Rattle.deliver.proofs.judge.Goals as goal

-- without a name question 3 decides, and question 5 is not reached
by_name : (running : ℕ → Bool) (k a r n : ℕ) (ready up set range : Bool) (j : Result Name Refusal) → refusal_of j ≡ first_no (3 asks range ∷ []) → IfOk j (Names k a r n)
    → MatchResult j (λ x. up ≡ running x.kind) (λ _. up ≡ false)
    → first_no (2 asks set ∷ 3 asks is_ok j ∷ 4 asks ready ∷ 5 asks up ∷ []) ≡ first_no (2 asks set ∷ 3 asks range ∷ 4 asks ready ∷ 5 asks running k ∷ [])
unfolding first_no
by_name running k a r n ready up set true (Ok x) e c h = rw (h, c.kind)
by_name running k a r n ready up set false (Ok x) e c h = absurd (omega arith)
by_name running k a r n ready up set true (Err y) e c h = absurd (number_not_zero y e)
by_name running k a r n ready up true false (Err y) e c h = refl
by_name running k a r n ready up false false (Err y) e c h = refl

-- what passes every question has a name
with_name : (ready up set : Bool) (j : Result Name Refusal) → 0 ≡ first_no (2 asks set ∷ 3 asks is_ok j ∷ 4 asks ready ∷ 5 asks up ∷ []) → refusal_of j ≡ 0
unfolding first_no
with_name ready up set (Ok x) e = refl
with_name ready up true (Err y) e = absurd (omega arith)
with_name ready up false (Err y) e = absurd (omega arith)

pub returns-in_err-first_no-clause-asked : goal.returns-in_err-first_no-clause-asked
unfolding first_questions
returns-in_err-first_no-clause-asked c =
    let a = c.args in
    let up : MatchResult c.in_range-name.result (λ x. c.is_ok_and-up.result ≡ runs (status_of a.s.now) (destination (job_of a.s.now) x.kind a.sender a.receiver)) (λ _. c.is_ok_and-up.result ≡ false) = search rules in
    let p = err_from_is_err_and c.from_residual.result c.from_residual.ensures.1 in
    rw (p.1, p.2) (c.in_err-first_no.ensures ∙ rw (c.is_set.ensures, c.is_ok.ensures.value, c.is_lost.ensures)
    (by_name (λ k. runs (status_of a.s.now) (destination (job_of a.s.now) k a.sender a.receiver)) _ _ _ _ _ _ _ _ _ c.in_range-name.ensures.asked c.in_range-name.ensures.named up))

pub returns-clause-asked : goal.returns-clause-asked
unfolding first_questions
returns-clause-asked c =
    let a = c.args in
    let up : MatchResult c.in_range-name.result (λ x. c.is_ok_and-up.result ≡ runs (status_of a.s.now) (destination (job_of a.s.now) x.kind a.sender a.receiver)) (λ _. c.is_ok_and-up.result ≡ false) = search rules in
    let e = rw (c.is_set.ensures, c.is_ok.ensures.value, c.is_lost.ensures) at c.in_ok-first_no.ensures in
    with_name _ _ _ _ e ∙ e ∙ by_name (λ k. runs (status_of a.s.now) (destination (job_of a.s.now) k a.sender a.receiver)) _ _ _ _ _ _ _ _ _ c.in_range-name.ensures.asked c.in_range-name.ensures.named up
