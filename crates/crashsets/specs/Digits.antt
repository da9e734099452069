-- Numbers of one and two digits, and the line of f. `proofs/Digits` has the lines of a job as the loop writes them.
use Rattle.std.specs.Prelude.{◌≡◌, refl, List, [], ◌∷◌, ◌++◌, ℕ, zero, suc, ◌+◌, ◌^◌, ◌/◌, ◌%◌, ◌<◌, ◌≤◌, length}
use Rattle.std.proofs.Common.{◌∙◌, arith, length-append, lt-ltb, le-ltb, inl, inr}
use Rattle.lists.specs.{Tests.lt?}
use Rattle.arrays.specs.{Copies.{put_at, put_put}, Loops.tally_le}
use Rattle.protocol.specs.{Parts.Job, Lines.newline}
use Rattle.crashsets.specs.{CrashSets.{total, survived, decimals, decimal, blank, field, count_line}, Words.{total_words, survived_words, is_counted, is_survived}}
use Rattle.std.proofs.Math.Nat.{pow-le-pow_right}

-- six lines of eight bytes
abbrev pub ROOM : ℕ
ROOM = 48

-- ---- decimal digits
pub one_digit : (n x : ℕ) → n < 10 → field n x ≡ (48 + n) ∷ x ∷ []
unfolding field decimal decimals
one_digit zero x h = refl
one_digit (suc n) x h = rw (lt-ltb (suc n) 10 h)

pub two_digits : (n x : ℕ) → 10 ≤ n → n < 100 → field n x ≡ (48 + n / 10) ∷ (48 + n % 10) ∷ x ∷ []
unfolding field decimal decimals
two_digits zero x l h = absurd (omega arith)
two_digits (suc zero) x l h = absurd (omega arith)
two_digits (suc (suc n)) x l h = rw (le-ltb (suc (suc n)) 10 l, lt-ltb (suc (suc n) / 10) 10 (omega arith))

pub field_fits : (n x : ℕ) → n < 100 → length (field n x) ≤ 3
field_fits n x h = elim (lt? n 10) [ inl l ↦ rw (one_digit n x l) (omega arith) | inr g ↦ rw (two_digits n x g h) (omega arith) ]

pub first_fits : (f x : ℕ) → f < 10 → length (field f x) ≡ 2
first_fits f x h = rw (one_digit f x h)

-- ---- the line of f
pub line_fits : (f n k : ℕ) → f < 10 → n < 100 → k < 100 → length (count_line f n k) ≤ 8
unfolding count_line
line_fits f n k small-f small_n small-k = simp length-append (omega (arith, first_fits f blank small-f, field_fits n blank small_n, field_fits k newline small-k))

-- its numbers put one behind the other
module _ (o : List ℕ) (at f n k : ℕ) (room : at + 8 ≤ length o) (small-f : f < 10) (small_n : n < 100) where
  two_fit : length (field f blank ++ field n blank) ≤ 5
  two_fit = simp length-append (omega (arith, first_fits f blank small-f, field_fits n blank small_n))

  pub line_put : (a b c : ℕ) (p q r : List ℕ) → a ≡ at + length (field f blank) → p ≡ put_at o at (field f blank)
      → b ≡ a + length (field n blank) → q ≡ put_at p a (field n blank) → c ≡ b + length (field k newline) → r ≡ put_at q b (field k newline)
      → (c ≡ at + length (count_line f n k)) × (r ≡ put_at o at (count_line f n k))
  unfolding count_line
  line_put a b c p q r is-a is-p is_b is-q is_c is-r =
      let s = field f blank in
      let t = field n blank in
      let two : b ≡ at + length (s ++ t) = omega (arith, length-append s t) in
      let half : q ≡ put_at o at (s ++ t) = is-q ∙ rw (is-p, is-a) (put_put o at s t (omega (arith, first_fits f blank small-f))) in
      (omega (arith, length-append (s ++ t) (field k newline)), is-r ∙ rw (half, two) (put_put o at (s ++ t) (field k newline) (omega (arith, two_fit))))

-- ---- six machines have 64 sets, so every count has at most two digits
module _ (j : Job) (f : ℕ) (few : j.machines ≤ 6) where
  sets_few : 2 ^ j.machines ≤ 64
  sets_few = pow-le-pow_right {n = 2} (omega arith) few

  pub total_small : total j f < 100
  total_small = omega (arith, total_words j f, tally_le (is_counted j f) (2 ^ j.machines) 0, sets_few)

  pub survived_small : survived j f < 100
  survived_small = omega (arith, survived_words j f, tally_le (is_survived j f) (2 ^ j.machines) 0, sets_few)
