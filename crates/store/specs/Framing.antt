-- A frame's questions: the number of the first that is answered "no" decides.
use Rattle.std.specs.Prelude.{◌≡◌, refl, Bool, true, ◌≢◌, List, [], ◌∷◌, ℕ, ◌<◌, ◌≤◌}
use Rattle.std.proofs.Common.{sym, ◌∙◌, arith}
use Rattle.lists.specs.Questions.{Question, ◌asks◌, numbered, put_all, yes_put, first_no, first_no_yes, put_first}
use Rattle.protocol.specs.{declared.Rule.Rule, declared.Rule.TheVariants.Other, declared.Answer.Answer, declared.Answer.TheVariants.{Accepted, Refused}, Frames.between, Parts.State, Step.{Outcome, judged}}
use Rattle.frames.specs.Range.{between_true}
use Rattle.head.specs.{Head.job_of, HeadLaws.{machines_top, chares_top}}
use Rattle.store.specs.View.{view, outcome, tried, Framed}

-- ---- a frame's end: the store is as it was, or the frame is accepted
pub refuses : (xs : List ℕ) (n : ℕ) {o : Outcome} → o ≡ record { state = view xs; answer = Refused n } → Framed xs xs (Refused n) o
unfolding outcome
refuses xs n e = record { gives = sym e; stays = λ _ _. refl }

pub accepts : (xs ys : List ℕ) {r : Rule} {o : Outcome} → o ≡ outcome ys (Accepted r) → Framed xs ys (Accepted r) o
accepts xs ys e = record { gives = sym e; stays = λ n q. absurd (let z : ◌≡◌ {A = ℕ} 0 1 = cc in omega arith) }

-- ---- by the questions: n is what the code finds
module _ (xs : List ℕ) (l : List Question) (n : ℕ) (e : n ≡ first_no l) where
  pub refused : (o : Outcome) → n ≢ 0 → Framed xs xs (Refused n) (judged (view xs) (put_all l o))
  unfolding outcome judged
  refused o h = record { gives = rw (put_first l o (λ z. h (e ∙ z)), ← e); stays = λ m q. refl }

  pub answered : numbered l ≡ true → (ys : List ℕ) (a : Answer) (o : Outcome) → ((m : ℕ) → a ≢ Refused m) → n ≡ 0 → outcome ys a ≡ o → Framed xs ys a (judged (view xs) (put_all l o))
  unfolding judged
  answered k ys a o d h q = record { gives = rw (yes_put l o (first_no_yes l k (sym e ∙ h))) q; stays = λ m z. absurd (d m z) }

  pub accepted : numbered l ≡ true → (ys : List ℕ) (s : State) → n ≡ 0 → view ys ≡ s → Framed xs ys (Accepted Other) (tried (view xs) l s)
  unfolding outcome tried
  accepted k ys s h q = answered k ys (Accepted Other) _ (λ m z. absurd (let y : ◌≡◌ {A = ℕ} 0 1 = cc in omega arith)) h (rw q)

-- a chare of the job has a memory
pub chare_in : (xs : List ℕ) (c : ℕ) → between 1 (view xs).job.chares c ≡ true → c < 13
unfolding view
chare_in xs c e = let h = between_true 1 (job_of xs).chares c e in omega (arith, chares_top xs)

-- a machine that passed is one of six
pub machine_in : (xs : List ℕ) (p n : ℕ) (a b c d : Bool) → n ≡ first_no (2 asks a ∷ 3 asks b ∷ 4 asks c ∷ 5 asks d ∷ []) → b ≡ between 1 (job_of xs).machines p → n ≡ 0 → (1 ≤ p) × (p ≤ 6)
machine_in xs p n a b c d e r z =
    let y : between 1 (job_of xs).machines p ≡ true = sym r ∙ (first_no_yes (2 asks a ∷ 3 asks b ∷ 4 asks c ∷ 5 asks d ∷ []) refl (sym e ∙ z)).1.0 in
    let h = between_true 1 (job_of xs).machines p y in
    (h.low, omega (arith, h.high, machines_top xs))
