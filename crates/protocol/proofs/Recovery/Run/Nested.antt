-- Updates of maps of two and of three numbers.
use Rattle.std.specs.Prelude.{◌≡◌, refl, ℕ}
use Rattle.std.proofs.Common.{sym, ◌∙◌}
use Rattle.std.proofs.Math.Path.{fun_ext}
use Rattle.lists.specs.Map.{upd, upd_ind}
use Rattle.protocol.specs.CrashFree.{upd3}

module _ {A : Type 0} where
  -- what holds of the new value at its keys, and of every old value elsewhere, holds of the map
  pub upd2_ind {κ} : (P : ℕ → ℕ → A → Type κ) (s r : ℕ) (v : A) (f : ℕ → ℕ → A)
      → P s r v → ((a b : ℕ) → ¬ ((a ≡ s) × (b ≡ r)) → P a b (f a b)) → (a b : ℕ) → P a b (upd s (upd r v (f s)) f a b)
  upd2_ind P s r v f new old a b =
      upd_ind (λ a g. (b : ℕ) → P a b (g b)) s _ f
      (upd_ind (P s) r v (f s) new (λ b q. old s b (λ e. q e.1)))
      (λ a q b. old a b (λ e. q e.0))
      a b

  abbrev pub upd2 : ℕ → ℕ → A → (ℕ → ℕ → A) → ℕ → ℕ → A
  upd2 s r v f = upd s (upd r v (f s)) f

  pub upd2_same : (s r : ℕ) (v : A) (f : ℕ → ℕ → A) → upd2 s r v f s r ≡ v
  upd2_same s r v f = upd2_ind (λ a b u. (a ≡ s) × (b ≡ r) → u ≡ v) s r v f (λ _. refl) (λ a b q e. absurd (q e)) s r (refl, refl)

  pub upd2_other : (s r : ℕ) (v : A) (f : ℕ → ℕ → A) (a b : ℕ) → ¬ ((a ≡ s) × (b ≡ r)) → upd2 s r v f a b ≡ f a b
  upd2_other s r v f a b h = upd2_ind (λ a b u. ¬ ((a ≡ s) × (b ≡ r)) → u ≡ f a b) s r v f (λ q. absurd (q (refl, refl))) (λ a b _ _. refl) a b h

  pub upd2_comm : (s r s' r' : ℕ) (v w : A) (f : ℕ → ℕ → A) → ¬ ((s ≡ s') × (r ≡ r')) → upd2 s r v (upd2 s' r' w f) ≡ upd2 s' r' w (upd2 s r v f)
  upd2_comm s r s' r' v w f h = fun_ext (λ a. fun_ext (λ b. upd2_ind (λ a b u. u ≡ upd2 s' r' w (upd2 s r v f) a b) s r v (upd2 s' r' w f)
      (sym (upd2_other s' r' w (upd2 s r v f) s r h ∙ upd2_same s r v f))
      (λ a b q. upd2_ind (λ a b u. ¬ ((a ≡ s) × (b ≡ r)) → u ≡ upd2 s' r' w (upd2 s r v f) a b) s' r' w f
      (λ _. sym (upd2_same s' r' w (upd2 s r v f)))
      (λ a b p q. sym (upd2_other s' r' w (upd2 s r v f) a b p ∙ upd2_other s r v f a b q))
      a b q)
      a b))

  pub upd3_ind {κ} : (P : ℕ → ℕ → ℕ → A → Type κ) (s r n : ℕ) (v : A) (f : ℕ → ℕ → ℕ → A)
      → P s r n v → ((a b k : ℕ) → ¬ ((a ≡ s) × (b ≡ r) × (k ≡ n)) → P a b k (f a b k)) → (a b k : ℕ) → P a b k (upd3 s r n v f a b k)
  unfolding upd3
  upd3_ind P s r n v f new old a b k =
      upd_ind (λ a g. (b k : ℕ) → P a b k (g b k)) s _ f
      (upd2_ind (P s) r n v (f s) new (λ b k q. old s b k (λ e. q (e.1, e.2))))
      (λ a q b k. old a b k (λ e. q e.0))
      a b k

  pub upd3_same : (s r n : ℕ) (v : A) (f : ℕ → ℕ → ℕ → A) → upd3 s r n v f s r n ≡ v
  upd3_same s r n v f =
      upd3_ind (λ a b k u. (a ≡ s) × (b ≡ r) × (k ≡ n) → u ≡ v) s r n v f (λ _. refl) (λ a b k q e. absurd (q e)) s r n (refl, refl, refl)

  pub upd3_other : (s r n : ℕ) (v : A) (f : ℕ → ℕ → ℕ → A) (a b k : ℕ) → ¬ ((a ≡ s) × (b ≡ r) × (k ≡ n)) → upd3 s r n v f a b k ≡ f a b k
  upd3_other s r n v f a b k h =
      upd3_ind (λ a b k u. ¬ ((a ≡ s) × (b ≡ r) × (k ≡ n)) → u ≡ f a b k) s r n v f (λ q. absurd (q (refl, refl, refl))) (λ a b k _ _. refl) a b k h

  -- two maps that agree at every key but one agree after an update there
  upd3_ext : (s r n : ℕ) (v : A) (f g : ℕ → ℕ → ℕ → A) → g s r n ≡ v → ((a b k : ℕ) → ¬ ((a ≡ s) × (b ≡ r) × (k ≡ n)) → f a b k ≡ g a b k) → upd3 s r n v f ≡ g
  upd3_ext s r n v f g new old = fun_ext (λ a. fun_ext (λ b. fun_ext (λ k. upd3_ind (λ a b k u. u ≡ g a b k) s r n v f (sym new) old a b k)))

  pub upd3_comm : (s r n s' r' n' : ℕ) (v w : A) (f : ℕ → ℕ → ℕ → A) → ¬ ((s ≡ s') × (r ≡ r') × (n ≡ n'))
      → upd3 s r n v (upd3 s' r' n' w f) ≡ upd3 s' r' n' w (upd3 s r n v f)
  upd3_comm s r n s' r' n' v w f h =
      upd3_ext s r n v (upd3 s' r' n' w f) (upd3 s' r' n' w (upd3 s r n v f))
      (upd3_other s' r' n' w (upd3 s r n v f) s r n h ∙ upd3_same s r n v f)
      (λ a b k q. upd3_ind (λ a b k u. ¬ ((a ≡ s) × (b ≡ r) × (k ≡ n)) → u ≡ upd3 s' r' n' w (upd3 s r n v f) a b k) s' r' n' w f
      (λ _. sym (upd3_same s' r' n' w (upd3 s r n v f)))
      (λ a b k p q. sym (upd3_other s' r' n' w (upd3 s r n v f) a b k p ∙ upd3_other s r n v f a b k q))
      a b k q)
