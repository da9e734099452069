-- Whether a crash has cover, by the statuses of the machines.
use Rattle.std.specs.Prelude.{◌≡◌, ◌≢◌, refl, Bool, true, false, List, ℕ, ◌≤◌}
use Rattle.std.proofs.Common.{◌∙◌, arith}
use Rattle.arrays.specs.Loops.{all_pass, one_fails}
use Rattle.protocol.specs.{declared.Status.Status, declared.Status.TheVariants.{Up, Down, CatchingUp}, Parts.{job_machines, is_down, is_catching_up}, Crash.{is_normal, has_cover}}
use Rattle.head.specs.Head.{job_of, status_of, held_of}
use Rattle.store.specs.View.{view}

module _ (xs : List ℕ) (p n : ℕ) (is-n : n ≡ (job_of xs).machines) where
  normal : (q : ℕ) → status_of xs q ≡ Up → is_normal (view xs) q ≡ true
  unfolding is_normal view is_down is_catching_up
  normal q e = rw e

  abnormal : (q : ℕ) → status_of xs q ≢ Up → is_normal (view xs) q ≡ false
  unfolding is_normal view is_down is_catching_up
  abnormal q = go (status_of xs q) refl
    where
      go : (s : Status) → status_of xs q ≡ s → s ≢ Up → is_normal (view xs) q ≡ false
      go Up e d = absurd (d refl)
      go Down e d = rw e
      go CatchingUp e d = rw e

  pub cover_held : ((q : ℕ) → 1 ≤ q → q ≤ n → status_of xs q ≡ Up) → (b : Bool) → b ≡ held_of xs p → b ≡ has_cover (view xs) p
  unfolding has_cover job_machines view
  cover_held h b e = e ∙ rw (all_pass (is_normal (view xs)) (job_of xs).machines 1 (λ i l r. normal i (h i l (omega arith))))

  pub no_cover : (q : ℕ) × (1 ≤ q) × (q ≤ n) × (status_of xs q ≢ Up) → false ≡ has_cover (view xs) p
  unfolding has_cover job_machines view
  no_cover (q, l, r, d) = rw (one_fails (is_normal (view xs)) (job_of xs).machines 1 q l (omega arith) (abnormal q d))
