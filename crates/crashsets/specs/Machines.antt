-- The machines of an accepted job, and their buddies.
use Rattle.std.specs.Prelude.{◌≡◌, true, List, ℕ, ◌*◌, ◌^◌, ◌%◌, ◌≤◌}
use Rattle.std.proofs.Common.{◌∙◌, arith, le-leb}
use Rattle.protocol.specs.{Frames.between, Job.{machines_of, job_in_range, job_of, has_machine}}
use Rattle.jobline.specs.JobLaws.{in_range}
use Rattle.std.proofs.Math.Nat.{pow-le-pow_right}
use Rattle.std.proofs.Math.Pow.{shl_exact}

module _ (b : List ℕ) (good : job_in_range b ≡ true) where
  pub some : 2 ≤ machines_of b
  some = (in_range b good).machines.low

  pub few : machines_of b ≤ 6
  few = (in_range b good).machines.high

  -- the words of M bits: the code shifts a 1
  pub words_end : (m : ℕ) → m ≡ machines_of b → (1 * 2 ^ m % 2 ^ 64 ≡ 2 ^ (job_of b).machines) × (1 * 2 ^ m % 2 ^ 64 ≤ 64)
  unfolding job_of
  words_end m e =
      let exact : 1 * 2 ^ m % 2 ^ 64 ≡ 2 ^ m = shl_exact 1 m 64 (omega arith) (omega (arith, few)) ∙ omega arith in
      let small : 2 ^ m ≤ 64 = (let six : m ≤ 6 = omega (arith, few) in pow-le-pow_right {n = 2} (omega arith) six) in
      (exact ∙ rw e, omega arith)

  module _ (p : ℕ) (low : 1 ≤ p) (high : p ≤ machines_of b) where
    is_machine : has_machine b p ≡ true
    unfolding has_machine between
    is_machine = rw (le-leb 1 p low, le-leb p (machines_of b) high)

    pub buddy_low : 1 ≤ (job_of b).buddy p
    buddy_low = ((in_range b good).buddy_there p is_machine).low

    pub buddy_high : (job_of b).buddy p ≤ machines_of b
    buddy_high = ((in_range b good).buddy_there p is_machine).high
