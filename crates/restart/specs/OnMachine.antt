-- Only chares 1 to 12 are on a machine.
use Rattle.std.specs.Prelude.{◌≡◌, Bool, true, List, ℕ, ◌<◌, ◌≤◌, length}
use Rattle.std.proofs.Common.{sym, ◌∙◌, ⊎_elim, arith, eqb-true}
use Rattle.lists.specs.Tests.{lt?}
use Rattle.protocol.specs.Parts.{on}
use Rattle.head.specs.{Head.{HEAD, job_of}, HeadLaws.{home_desk, home_beyond}}
use Rattle.store.specs.View.{view}

-- where chare c is, as the code finds it
pub home_at : (xs : List ℕ) (p c : ℕ) (r b : Bool) → r ≡ on (job_of xs) p c → r ≡ b → on (view xs).job p c ≡ b
unfolding view
home_at xs p c r b e q = sym e ∙ q

module _ (xs : List ℕ) (long : HEAD ≤ length xs) (p : ℕ) (named : 1 ≤ p) (c : ℕ) (e : on (view xs).job p c ≡ true) where
  home : (job_of xs).home c ≡ p
  unfolding view on
  home = eqb-true ((job_of xs).home c) p e

  pub on_first : 1 ≤ c
  on_first = ⊎_elim (λ (h : c < 1). let z : c ≡ 0 = omega arith in absurd (omega (arith, rw z at home, home_desk xs))) (λ h. h) (lt? c 1)

  pub on_last : c < 13
  on_last = ⊎_elim (λ h. h) (λ h. absurd (omega (arith, home, home_beyond xs long c h))) (lt? c 13)
