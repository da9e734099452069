-- A written head says the line's job, if its numbers are in range.
use Rattle.std.specs.Prelude.{◌≡◌, refl, true, false, List, ℕ, ◌+◌, ◌≤◌, length}
use Rattle.std.proofs.Common.{⊎_elim, arith}
use Rattle.std.proofs.Math.Path.{fun_ext}
use Rattle.lists.specs.Tests.{lt?}
use Rattle.arrays.specs.ArrayMap.{as_map, map_beyond}
use Rattle.protocol.specs.{declared.Status.TheVariants.Up, Frames.between, Job.{machines_of, chares_of, job_in_range, job_of, has_machine, has_chare}}
use Rattle.frames.specs.Range.{between_high}
use Rattle.jobline.specs.{Numbers.number_of, JobLaws.in_range}
use Rattle.words.specs.{Fields.bit_set, Part.{part, part_length}, Zeros.zero_at}
use Rattle.head.specs.{Cells.{Filled, cell_filled}, Head.{BUDDY, HELD, HOME, FIRST, SECOND, HEAD, cell, lost_of, as_status, status_of, held_of, target_of}, HeadLaws.job_is}
use Rattle.head.specs.Kept.{Says}
use Rattle.opening.specs.Words.{Written}
use Rattle.head.specs.Head as head

module _ (b : List ℕ) (ok : job_in_range b ≡ true) (h : List ℕ) (w : Written b h) where
  long : (a n : ℕ) → a + n ≤ HEAD → length (part a n h) ≡ n
  long a n g = part_length a n h (omega (arith, w.size))

  numbers_are : (a i m : ℕ) → a + 13 ≤ HEAD → Filled (number_of b i) (part a 13 h) 13 → ((c : ℕ) → number_of b i c ≤ m) → (c : ℕ) → cell m (part a 13 h) c ≡ number_of b i c
  unfolding number_of has_chare between
  numbers_are a i m g filled =
      let few = (in_range b ok).chares in
      cell_filled m 13 (part a 13 h) (number_of b i) (long a 13 g) filled refl (λ j k. rw (between_high 1 (chares_of b) j (omega arith)))

  buddies_are : (p : ℕ) → cell 6 (part BUDDY 7 h) p ≡ (job_of b).buddy p
  unfolding job_of has_machine between
  buddies_are =
      let r = in_range b ok in
      let few = r.machines in
      cell_filled 6 7 (part BUDDY 7 h) (job_of b).buddy (long BUDDY 7 (omega arith)) w.buddies refl (λ j k. rw (between_high 1 (machines_of b) j (omega arith))) r.buddies

  the_job : head.job_of h ≡ job_of b
  unfolding job_of machines_of chares_of number_of
  the_job =
      let r = in_range b ok in
      let rm = r.machines in
      let rc = r.chares in
      job_is h (job_of b)
      (rw w.numbers) (rw w.numbers (omega arith)) (rw w.numbers (omega arith))
      buddies_are
      (numbers_are HOME 0 6 (omega arith) w.homes (λ c. (r.numbers c).0))
      (numbers_are FIRST 1 12 (omega arith) w.firsts (λ c. (r.numbers c).1))
      (numbers_are SECOND 2 12 (omega arith) w.seconds (λ c. (r.numbers c).2))

  holds : (p : ℕ) → held_of h p ≡ has_machine b p
  unfolding held_of as_map Filled has_machine
  holds p =
      let few = (in_range b ok).machines in
      ⊎_elim
      (λ g. rw (w.helds p g) (bit_set (has_machine b p)))
      (λ g. rw (map_beyond 0 (part HELD 7 h) p (omega (arith, long HELD 7 (omega arith))), between_high 1 (machines_of b) p (omega arith)))
      (lt? p 7)

  pub head_says : Says h (job_of b) false (λ _. Up) (has_machine b) (λ _. 0)
  unfolding lost_of status_of target_of as_map as_status
  head_says = record {
    job = the_job;
    lost = rw w.numbers;
    status = fun_ext (λ p. rw (w.statuses, zero_at 7 p));
    held = fun_ext holds;
    target = fun_ext (λ c. rw w.targets (zero_at 13 c));
  }
