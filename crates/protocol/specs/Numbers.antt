-- The numbers by which document 01 names kinds of packets and questions, and what an answer's line says of them.
use Rattle.std.specs.Prelude.{◌≡◌, ◌≢◌, ℕ, ◌<◌, ◌⊎◌, Result, Ok, Err, MatchResult, IfOk}
use Rattle.std.proofs.Common.{sym, ◌∙◌, ap, arith}
use Rattle.protocol.specs.declared.Kind.{Kind}
use Rattle.protocol.specs.declared.Kind.TheVariants.{Ask, Grant, Data, Note, Ack}
use Rattle.protocol.specs.declared.Rule.{Rule}
use Rattle.protocol.specs.declared.Answer.{Answer}
use Rattle.protocol.specs.declared.Answer.TheVariants.{Accepted, Refused}
use Rattle.protocol.specs.declared.Refusal.{Refusal}
use Rattle.protocol.specs.declared.Refusal.TheVariants.{Garbled, Job, OutOfRange, LostRun, NotUp, Missing, TooHigh, BeyondWindow, LogFull, TableFull, WireFull, TooLate}

-- "Frame 11: kind 1 ASK, 2 GRANT, 3 DATA, 4 NOTE, 5 ACK"
abbrev pub kind_number : Kind → ℕ
kind_number Ask = 1
kind_number Grant = 2
kind_number Data = 3
kind_number Note = 4
kind_number Ack = 5

-- the question that is answered "no"
abbrev pub number : Refusal → ℕ
number Garbled = 1
number Job = 2
number OutOfRange = 3
number LostRun = 4
number NotUp = 5
number Missing = 6
number TooHigh = 7
number BeyondWindow = 8
number LogFull = 9
number TableFull = 10
number WireFull = 11
number TooLate = 12

-- the kind of this number; no kind has it
abbrev pub KindOf : ℕ → Result Kind Refusal → Type 0
KindOf n r = MatchResult r (λ k. kind_number k ≡ n) (λ e. (e ≡ OutOfRange) × ((n < 1) ⊎ (5 < n)))

-- the number of the question answered "no"; 0 where none is
abbrev pub refusal_of : {A : Type 0} → Result A Refusal → ℕ
refusal_of (Ok x) = 0
refusal_of (Err e) = number e

-- what a frame prints: accepted, with the rule used, or the number of the question
abbrev pub answered : Result Rule Refusal → Answer
answered (Ok r) = Accepted r
answered (Err e) = Refused (number e)

-- the same of a frame that prints more than the rule used
abbrev pub given_answer : Result Answer Refusal → Answer
given_answer (Ok a) = a
given_answer (Err e) = Refused (number e)

-- only an error is a refusal
abbrev pub NotRefused : Result Answer Refusal → Type 0
NotRefused r = IfOk r (λ a. (n : ℕ) → a ≢ Refused n)

pub number_not_zero : (e : Refusal) → number e ≢ 0
number_not_zero e h = elim e as (λ e. number e ≡ 0 → ⊥) [
  | Garbled ↦ (λ h. omega arith)
  | Job ↦ (λ h. omega arith)
  | OutOfRange ↦ (λ h. omega arith)
  | LostRun ↦ (λ h. omega arith)
  | NotUp ↦ (λ h. omega arith)
  | Missing ↦ (λ h. omega arith)
  | TooHigh ↦ (λ h. omega arith)
  | BeyondWindow ↦ (λ h. omega arith)
  | LogFull ↦ (λ h. omega arith)
  | TableFull ↦ (λ h. omega arith)
  | WireFull ↦ (λ h. omega arith)
  | TooLate ↦ (λ h. omega arith)
] h

module _ {A : Type 0} (r : Result A Refusal) {n : ℕ} (s : refusal_of r ≡ n) where
  -- a "no" was answered
  pub refused_by : {e : Refusal} → r ≡ Err e → number e ≡ n
  refused_by q = sym (ap refusal_of q) ∙ s

  pub refused_not_zero : {e : Refusal} → r ≡ Err e → n ≢ 0
  refused_not_zero {e} q z = number_not_zero e (refused_by q ∙ z)

  -- every answer was "yes"
  pub passed : {x : A} → r ≡ Ok x → 0 ≡ n
  passed q = sym (ap refusal_of q) ∙ s
