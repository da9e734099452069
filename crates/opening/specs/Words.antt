-- What a job's line writes into the head.
use Rattle.std.specs.Prelude.{◌≡◌, List, [], ◌∷◌, ℕ, ◌+◌, ◌-◌, ◌<◌, ◌≤◌, length, get_or, set}
use Rattle.std.proofs.Common.{◌∙◌, arith, leb-true}
use Rattle.protocol.specs.Job.{job_of, has_machine}
use Rattle.jobline.specs.Numbers.{number_of}
use Rattle.words.specs.{Fields.bit, Part.{part, put, part_length, put_length, part_put, part_before, part_behind}, Zeros.zeros}
use Rattle.head.specs.{Cells.Filled, Head.{SET, MACHINES, CHARES, BUDDY, STATUS, HELD, HOME, FIRST, SECOND, TARGET, HEAD}}

-- what a function of a number answers below 256, as a closure's calls say it
abbrev pub Gives : (ℕ → ℕ) → (ℕ → ℕ → Type 0) → Type 0
Gives f post = (k r : ℕ) → k < 256 → post k r → r ≡ f k

-- ---- n words from a place on are written, the others stay
pub record Wrote (f : ℕ → ℕ) (a n : ℕ) (xs ys : List ℕ) : Type 0 where
  pub here : Filled f (part a n ys) n
  pub before : (b j : ℕ) → b + j ≤ a → part b j ys ≡ part b j xs
  pub behind : (b j : ℕ) → a + n ≤ b → part b j ys ≡ part b j xs

-- a part that was lent is put back, with f at each place
pub filled_at : (f : ℕ → ℕ) (a n : ℕ) (xs ys : List ℕ) → length xs ≡ HEAD → a + n ≤ HEAD → length ys ≡ length (part a n xs) → Filled f ys (length (part a n xs))
    → (length (put a n xs ys) ≡ HEAD) × Wrote f a n xs (put a n xs ys)
filled_at f a n xs ys size within l w =
    let fits : a + n ≤ length xs = omega arith in
    let k : length (part a n xs) ≡ n = part_length a n xs fits in
    let long : length ys ≡ n = l ∙ k in (
      put_length a n xs ys fits long ∙ size,
      record {
        here = rw (part_put a n xs ys fits long) (rw k at w);
        before = part_before a n xs ys fits long;
        behind = part_behind a n xs ys fits long;
      },
    )

-- 1 for a machine that the job has: each starts with a copy
abbrev pub copy_at : List ℕ → ℕ → ℕ
copy_at b p = bit (has_machine b p)

-- ---- the head, part by part
pub record Written (b h : List ℕ) : Type 0 where
  pub size : length h ≡ HEAD
  pub numbers : part 0 4 h ≡ 1 ∷ 0 ∷ get_or b 1 0 ∷ get_or b 2 0 ∷ []
  pub buddies : Filled (job_of b).buddy (part BUDDY 7 h) 7
  pub statuses : part STATUS 7 h ≡ zeros 7
  pub helds : Filled (copy_at b) (part HELD 7 h) 7
  pub homes : Filled (number_of b 0) (part HOME 13 h) 13
  pub firsts : Filled (number_of b 1) (part FIRST 13 h) 13
  pub seconds : Filled (number_of b 2) (part SECOND 13 h) 13
  pub targets : part TARGET 13 h ≡ zeros 13

-- a head of which only the numbers are written
unfoldable pub numbered : List ℕ → List ℕ
numbered b = set (set (set (zeros HEAD) SET 1) MACHINES (get_or b 1 0)) CHARES (get_or b 2 0)

-- then each part; its places are numerals, which leb-true compares
pub head_written : (b h0 h1 h2 h3 h4 h5 : List ℕ) → length h5 ≡ HEAD → h0 ≡ numbered b
    → Wrote (job_of b).buddy BUDDY 7 h0 h1
    → Wrote (copy_at b) HELD 7 h1 h2
    → Wrote (number_of b 0) HOME 13 h2 h3
    → Wrote (number_of b 1) FIRST 13 h3 h4
    → Wrote (number_of b 2) SECOND 13 h4 h5
    → Written b h5
unfolding numbered
head_written b h0 h1 h2 h3 h4 h5 size e w1 w2 w3 w4 w5 = record {
  size = size;
  numbers = search (w1.before, w2.before, w3.before, w4.before, w5.before, e, leb-true);
  buddies = search (w2.before, w3.before, w4.before, w5.before, w1.here, leb-true);
  statuses = search (w1.behind, w2.before, w3.before, w4.before, w5.before, e, leb-true);
  helds = search (w3.before, w4.before, w5.before, w2.here, leb-true);
  homes = search (w4.before, w5.before, w3.here, leb-true);
  firsts = search (w5.before, w4.here, leb-true);
  seconds = w5.here;
  targets = search (w1.behind, w2.behind, w3.behind, w4.behind, w5.behind, e, leb-true);
}
