-- Maps changed on the chares of one machine: what they are there, and elsewhere.
use Rattle.std.specs.Prelude.{◌≡◌, refl, Bool, true, false, cond, ◌≢◌, ℕ, eqb}
use Rattle.std.proofs.Common.{eqb-true, eq-eqb, ne_eqb}
use Rattle.std.proofs.lemmas.Bool.{eqb-false}
use Rattle.protocol.specs.Parts.{Job, on, at_home}

module _ {A : Type 0} (j : Job) (q : ℕ) (g : ℕ → A → A) (f : ℕ → A) where
  pub at_home_on : (c : ℕ) → j.home c ≡ q → at_home j q g f c ≡ g c (f c)
  unfolding at_home on
  at_home_on c h = rw (eq-eqb (j.home c) q h)

  pub at_home_off : (c : ℕ) → j.home c ≢ q → at_home j q g f c ≡ f c
  unfolding at_home on
  at_home_off c h = rw (ne_eqb (j.home c) q h)

-- what holds of the new values on machine q, and of the old ones elsewhere, holds of the map
pub at_home_ind {κ} : {A : Type 0} (P : ℕ → A → Type κ) (j : Job) (q : ℕ) (g : ℕ → A → A) (f : ℕ → A)
    → ((c : ℕ) → j.home c ≡ q → P c (g c (f c))) → ((c : ℕ) → j.home c ≢ q → P c (f c)) → (c : ℕ) → P c (at_home j q g f c)
unfolding at_home on
at_home_ind P j q g f new old c = go (eqb (j.home c) q) refl
  where
    go : (b : Bool) → eqb (j.home c) q ≡ b → P c (cond b (g c (f c)) (f c))
    go true e = new c (eqb-true (j.home c) q e)
    go false e = old c (eqb-false (j.home c) q e)
