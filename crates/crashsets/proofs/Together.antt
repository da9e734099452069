-- Does a machine of a set stand together with its buddy? The machines 1 to M are asked in turn.
use Rattle.std.specs.Prelude.{◌≡◌, refl, Bool, true, not, ◌&&◌, ◌||◌, List, ℕ, zero, suc, ◌+◌, ◌-◌, ◌≤◌}
use Rattle.std.proofs.Common.{arith}
use Rattle.std.proofs.Math.Bool.{and-true, and_assoc, and_comm}
use Rattle.lists.specs.{Tests.either, Lists.allb, Counting.counting}
use Rattle.arrays.specs.Loops.{each}
use Rattle.protocol.specs.Job.{machines_of, job_in_range, job_of}
use Rattle.window.specs.Bits.{bits}
use Rattle.crashsets.specs.{CrashSets.{stands, survives}, Machines.{buddy_low, buddy_high}, Words.{set_of, stands_bit}}

-- one number more
each_last : (t : ℕ → Bool) (n k : ℕ) → each t (suc n) k ≡ (each t n k && t (n + k))
unfolding allb counting
each_last t zero k = let e : 0 + k ≡ k = omega arith in rw (e, and-true (t k))
each_last t (suc n) k = let e : n + suc k ≡ suc n + k = omega arith in rw (each_last t n (suc k), e, and_assoc (t k))

-- a test of the machines in a word's set, put to all machines
module _ (w : ℕ) (g t : ℕ → Bool) where
  all_asked : (m : ℕ) → ((p : ℕ) → 1 ≤ p → p ≤ m → t p ≡ (not (bits w (p - 1)) || g p)) → allb g (set_of m w) ≡ each t m 1
  unfolding allb set_of counting
  all_asked zero h = refl
  all_asked (suc m) h =
      let rest = all_asked m (λ p l k. h p l (omega arith)) in
      let last = h (suc m) (omega arith) (omega arith) in
      let e : m + 1 ≡ suc m = omega arith in
      let f : suc m - 1 ≡ m = omega arith in
      either (bits w m)
      (λ q. rw (each_last t m 1, e, last, f, q, rest, and_comm (g (suc m))))
      (λ q. rw (each_last t m 1, e, last, f, q, rest, and-true (each t m 1)))

-- machine p does not stand together with its buddy
abbrev pub alone : List ℕ → ℕ → ℕ → Bool
alone b w p = not (bits w (p - 1) && bits w ((job_of b).buddy p - 1))

pub survives_alone : (b : List ℕ) → job_in_range b ≡ true → (w : ℕ) → survives (job_of b) (set_of (machines_of b) w) ≡ each (alone b w) (machines_of b) 1
unfolding survives
survives_alone b good w = all_asked w (λ q. not (stands (set_of (machines_of b) w) ((job_of b).buddy q))) (alone b w) (machines_of b)
    (λ p l h. rw (stands_bit (machines_of b) w ((job_of b).buddy p) (buddy_low b good p l h) (buddy_high b good p l h))
    (either (bits w (p - 1)) (λ e. rw e) (λ e. rw e)))
