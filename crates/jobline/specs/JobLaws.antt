-- No number of a job in range is above its bound.
use Rattle.std.specs.Prelude.{true, List, ◌≡◌, ℕ, ◌≤◌, eqb, leb}
use Rattle.std.proofs.Common.{arith, le-leb, leb-true}
use Rattle.std.proofs.lemmas.Bool.{eqb-false}
use Rattle.lists.specs.{Lists.{allb, keep, allb_true, mem_keep}, Tests.{either, and_l, and4}}
use Rattle.protocol.specs.Job.{machines_of, chares_of, buddy_byte, chare_byte, buddy_in_range, chare_in_range, job_in_range, job_of, has_machine, has_chare, previous_machine}
use Rattle.protocol.specs.{Frames.between, Parts.every_machine}
use Rattle.protocol.proofs.{Recovery.Frames.Job.{machine_known, chare_known}}
use Rattle.frames.specs.Range.{Between, between_true}
use Rattle.jobline.specs.Numbers.{number_of}

pub record InRange (b : List ℕ) : Type 0 where
  pub machines : Between 2 6 (machines_of b)
  pub chares : Between 1 12 (chares_of b)
  pub buddies : (p : ℕ) → (job_of b).buddy p ≤ 6
  pub buddy_there : (p : ℕ) → has_machine b p ≡ true → Between 1 (machines_of b) ((job_of b).buddy p)
  pub numbers : (c : ℕ) → (number_of b 0 c ≤ 6) × (number_of b 1 c ≤ 12) × (number_of b 2 c ≤ 12)

-- the buddies that are named are machines of the job, and so are those that 00 means
module _ (b : List ℕ) (machines : Between 2 6 (machines_of b)) (bs : allb (buddy_in_range b) (keep (λ p. leb p (machines_of b)) every_machine) ≡ true) (p : ℕ) (h : has_machine b p ≡ true) where
  machine : Between 1 (machines_of b) p
  unfolding has_machine
  machine = between_true 1 (machines_of b) p h

  named : buddy_byte b p ≤ machines_of b
  unfolding buddy_in_range
  named =
      let asked : buddy_in_range b p ≡ true = allb_true _ _ bs p (mem_keep _ (machine_known p machine.low (omega (arith, machine.high))) (le-leb _ _ machine.high)) in
      leb-true (buddy_byte b p) (machines_of b) (and_l _ _ asked)

  its_buddy : Between 1 (machines_of b) ((job_of b).buddy p)
  unfolding job_of previous_machine
  its_buddy =
      either (eqb (buddy_byte b p) 0)
      (λ z. either (eqb p 1)
      (λ f. rw (h, z, f) (record { low = omega arith; high = omega arith }))
      (λ f. let n = eqb-false p 1 f in rw (h, z, f) (record { low = omega (arith, machine.low); high = omega (arith, machine.high) })))
      (λ z. let n = eqb-false (buddy_byte b p) 0 z in rw (h, z) (record { low = omega arith; high = omega (arith, named) }))

pub in_range : (b : List ℕ) → job_in_range b ≡ true → InRange b
unfolding job_in_range job_of number_of has_machine has_chare buddy_in_range chare_in_range previous_machine between
in_range b e =
    let (m, n, bs, cs) = and4 _ _ _ _ e in
    let machines = between_true 2 6 (machines_of b) m in
    let chares = between_true 1 12 (chares_of b) n in
    record {
      machines = machines;
      chares = chares;
      buddies = λ p. either (has_machine b p)
          (λ h. let k = its_buddy b machines bs p h in omega arith)
          (λ h. rw h (omega arith));
      buddy_there = its_buddy b machines bs;
      numbers = λ c. either (has_chare b c)
          (λ h.
          let k = between_true 1 (chares_of b) c h in
          let asked : chare_in_range b c ≡ true = allb_true _ _ cs c (mem_keep _ (chare_known c k.low (omega arith)) (le-leb _ _ k.high)) in
          let x = chare_byte b c in
          let (low, home, first, second) = and4 (leb 1 (x 0)) (leb (x 0) (machines_of b)) (leb (x 1) (chares_of b)) (leb (x 2) (chares_of b)) asked in
          rw h (omega (arith, leb-true)))
          (λ h. rw h (omega arith));
    }
