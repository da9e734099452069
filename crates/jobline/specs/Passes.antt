-- The numbers that a job has are all asked by going from 1 to M, and from 1 to C.
use Rattle.std.specs.Prelude.{◌&&◌, ◌≡◌, List, ℕ, zero, suc, ◌+◌, ◌-◌, ◌≤◌, leb}
use Rattle.std.proofs.Common.{inl, inr, ◌∙◌, arith, le-leb}
use Rattle.std.proofs.lemmas.Bool.{lt-leb}
use Rattle.lists.specs.{Lists.{allb, keep}, Counting.{counting}, Tests.{either, lt?}}
use Rattle.protocol.specs.{Frames.between, Job.{machines_of, chares_of, buddy_in_range, chare_in_range, job_in_range}, Parts.{every_machine, every_chare}}
use Rattle.frames.specs.Range.{between_true}

-- of n numbers from k on those up to m
kept : (m n k : ℕ) → m + 1 ≤ n + k → keep (λ p. leb p m) (counting n k) ≡ counting (m + 1 - k) k
unfolding keep counting
kept m zero k h = let e : m + 1 - k ≡ 0 = omega arith in rw e
kept m (suc n) k h = elim (lt? m k) [
  | inl g ↦ let e : m + 1 - k ≡ 0 = omega arith in let f : m + 1 - suc k ≡ 0 = omega arith in rw (lt-leb k m g, kept m n (suc k) (omega arith), e, f)
  | inr g ↦ let e : m + 1 - k ≡ suc (m + 1 - suc k) = omega arith in rw (le-leb k m g, kept m n (suc k) (omega arith), e)
]

up_to : (m n : ℕ) → m ≤ n → keep (λ p. leb p m) (counting n 1) ≡ counting m 1
up_to m n h = let e : m + 1 - 1 ≡ m = omega arith in kept m n 1 (omega arith) ∙ rw e

pub asked : (b : List ℕ) → job_in_range b
    ≡ (between 2 6 (machines_of b) && between 1 12 (chares_of b)
    && allb (buddy_in_range b) (counting (machines_of b) 1) && allb (chare_in_range b) (counting (chares_of b) 1))
unfolding job_in_range every_machine every_chare counting
asked b = either (between 2 6 (machines_of b))
    (λ e. either (between 1 12 (chares_of b))
    (λ f.
    let m = between_true 2 6 (machines_of b) e in
    let n = between_true 1 12 (chares_of b) f in
    rw (up_to (machines_of b) 6 (omega arith), up_to (chares_of b) 12 (omega arith)))
    (λ f. rw (e, f)))
    (λ e. rw e)
