-- Two words as one number: a bit read and set, the run of ones, a shift.
use Rattle.std.specs.Prelude.{bit_or, ◌≡◌, true, ℕ, ◌+◌, ◌-◌, ◌*◌, ◌/◌, ◌%◌, ◌^◌, ◌<◌, ◌≤◌}
use Rattle.lists.specs.Map.{upd}
use Rattle.protocol.specs.Window.{ones, width}
use Rattle.window.specs.{Bits.bits, BitLaws.{set_bit, shift_bits, low_bits, run_of_ones, ones_same, ones_stop, ones_on}}
use Rattle.std.proofs.Common.{mul_assoc, mul_comm, add-mul, add_assoc, pow-add, shl_exact, shr-shr, shr_lt, sym, ◌∙◌, ap, arith, lt_of_lt_of_le}
use Rattle.std.proofs.Math.Nat.{mul-add-div_right, pow-le-pow_right, div-eq_of_lt}
use Rattle.std.proofs.lemmas.Nat.{or_block, trailing_le, shl-shr, mod-pow-add}
use Rattle.std.specs.Int.Bits.{or_zero_r, or_shifted_r}
use Rattle.std.specs.Int.Count.{count_trailing_zeros}
use Rattle.std.proofs.Math.Pow.{pow-lt, split, high, low, ones_lt}

-- the run of ones of a word
abbrev pub word_run : ℕ → ℕ
word_run w = count_trailing_zeros 64 ((2 ^ 64 - 1) - w)

pub word_run_top : (w : ℕ) → word_run w ≤ 64
word_run_top w = trailing_le 64 ((2 ^ 64 - 1) - w)

module _ (lo hi : ℕ) (lo-in : lo < 2 ^ 64) where
  abbrev v : ℕ
  v = hi * 2 ^ 64 + lo

  lo_is : v % 2 ^ 64 ≡ lo
  lo_is = low hi 64 lo-in

  hi_is : v / 2 ^ 64 ≡ hi
  hi_is = high hi 64 lo-in

  -- ---- a bit
  pub bit_low : (k : ℕ) → k < 64 → bits lo k ≡ bits v k
  bit_low k h = sym (ap (λ n. bits n k) lo_is) ∙ low_bits v 64 k h

  pub bits_high : bits hi ≡ (λ i. bits v (64 + i))
  bits_high = sym (ap bits hi_is) ∙ shift_bits v 64

  one_shifted : (k : ℕ) → k < 64 → 1 * 2 ^ k % 2 ^ 64 ≡ 2 ^ k
  one_shifted k h = shl_exact 1 k 64 (omega arith) (omega arith) ∙ omega arith

  pub set_low : (k : ℕ) → k < 64 → bits (hi * 2 ^ 64 + bit_or lo (1 * 2 ^ k % 2 ^ 64)) ≡ upd k true (bits v)
  set_low k h =
      let e : 0 * 2 ^ 64 + 2 ^ k ≡ 2 ^ k = omega arith in
      rw (one_shifted k h) (ap bits (sym (rw (e, or_zero_r) at (or_block 64 hi 0 lo (2 ^ k) lo-in (pow-lt h)))) ∙ set_bit v k)

  pub set_high : (k : ℕ) → k < 64 → bits (bit_or hi (1 * 2 ^ k % 2 ^ 64) * 2 ^ 64 + lo) ≡ upd (64 + k) true (bits v)
  set_high k h =
      let e : 2 ^ k * 2 ^ 64 + 0 ≡ 2 ^ (64 + k) = sym (pow-add 2 64 k ∙ omega arith) in
      rw (one_shifted k h) (ap bits (sym (rw (e, or_zero_r) at (or_block 64 hi (2 ^ k) lo 0 lo-in (omega arith)))) ∙ set_bit v (64 + k))

  -- ---- the run of ones
  low_run : word_run lo ≡ ones 64 (bits v)
  low_run = run_of_ones 64 lo lo-in ∙ ones_same 64 (bits lo) (bits v) bit_low

  pub run_stops : word_run lo < 64 → word_run lo ≡ ones width (bits v)
  run_stops h = low_run ∙ sym (ones_stop 64 64 (bits v) (omega (arith, low_run)))

  pub run_goes_on : hi < 2 ^ 64 → 64 ≤ word_run lo → 64 + word_run hi ≡ ones width (bits v)
  run_goes_on hi-in h = ap (λ t. 64 + t) (run_of_ones 64 hi hi-in ∙ ap (ones 64) bits_high) ∙ sym (ones_on 64 64 (bits v) (omega (arith, low_run)))

  -- ---- a shift by t: by less than a word, by a word or more, by both
  module _ (t : ℕ) where
    shifted : (u : ℕ) → u ≡ v / 2 ^ t → bits u ≡ (λ i. bits v (t + i))
    shifted u e = ap bits e ∙ shift_bits v t

    pub shift_less : t < 64 → bits (hi / 2 ^ t * 2 ^ 64 + bit_or (lo / 2 ^ t) (hi * 2 ^ (64 - t) % 2 ^ 64)) ≡ (λ i. bits v (t + i))
    shift_less h =
        let u = 64 - t in
        let e : u + t ≡ 64 = omega arith in
        let f : t + u ≡ 64 = omega arith in
        let p : 2 ^ 64 ≡ 2 ^ t * 2 ^ u = ap (2 ^◌) (sym f) ∙ pow-add 2 t u in
        let small : lo / 2 ^ t < 2 ^ u = shr_lt u t (rw e lo-in) in
        let zero-low : hi * 2 ^ u % 2 ^ u ≡ 0 = ap (λ n. n % 2 ^ u) (omega arith) ∙ low hi u (omega arith) in
        let moved : hi * 2 ^ u % 2 ^ 64 ≡ hi % 2 ^ t * 2 ^ u =
        ap (λ k. hi * 2 ^ u % 2 ^ k) (sym f) ∙ mod-pow-add (hi * 2 ^ u) t u ∙ rw (shl-shr hi u, zero-low) (omega arith) in
        let whole : hi / 2 ^ t * 2 ^ 64 + (hi % 2 ^ t * 2 ^ u + lo / 2 ^ t) ≡ hi * 2 ^ u + lo / 2 ^ t =
        rw (p, ← (mul_assoc (hi / 2 ^ t) (2 ^ t) (2 ^ u)), ← (add_assoc (hi / 2 ^ t * 2 ^ t * 2 ^ u) (hi % 2 ^ t * 2 ^ u) (lo / 2 ^ t)), ← (add-mul (hi / 2 ^ t * 2 ^ t) (hi % 2 ^ t) (2 ^ u)), split hi t) in
        let cut : v / 2 ^ t ≡ hi * 2 ^ u + lo / 2 ^ t =
        rw (p, mul_comm (2 ^ t) (2 ^ u), ← (mul_assoc hi (2 ^ u) (2 ^ t))) (mul-add-div_right (omega (arith, ones_lt t)) (hi * 2 ^ u) lo) in
        shifted _ (rw (moved, or_shifted_r (hi % 2 ^ t) u (lo / 2 ^ t) small) (whole ∙ sym cut))

    pub shift_word : 64 ≤ t → bits (0 * 2 ^ 64 + hi / 2 ^ (t - 64)) ≡ (λ i. bits v (t + i))
    shift_word h =
        let e : 64 + (t - 64) ≡ t = omega arith in
        shifted _ (ap (λ (n : ℕ). 0 + n / 2 ^ (t - 64)) (sym hi_is) ∙ omega arith ∙ shr-shr v 64 (t - 64) ∙ ap (λ k. v / 2 ^ k) e)

    pub shift_all : hi < 2 ^ 64 → 128 ≤ t → bits (0 * 2 ^ 64 + 0) ≡ (λ i. bits v (t + i))
    shift_all g h =
        let e : 64 + (t - 64) ≡ t = omega arith in
        let long : 64 ≤ t - 64 = omega arith in
        let small : hi < 2 ^ (t - 64) = lt_of_lt_of_le g (pow-le-pow_right (omega arith) long) in
        shifted _ (sym (ap (λ k. v / 2 ^ k) (sym e) ∙ sym (shr-shr v 64 (t - 64)) ∙ rw hi_is (div-eq_of_lt small)))
