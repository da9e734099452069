-- The bytes of a line against those of the rule book: the same wherever the line is hexadecimal, and there are none elsewhere.
use Rattle.std.specs.Prelude.{Bool, false, cond, ◌&&◌, List, [], ◌∷◌, ◌≡◌, refl, ℕ, zero, suc, ◌+◌, ◌*◌, ◌<◌, ◌≤◌, ◌/◌, ◌%◌, eqb, length, get_or}
use Rattle.std.proofs.Common.{◌∙◌, arith}
use Rattle.std.proofs.Math.Bool.{and-false}
use Rattle.std.proofs.Math.ListN.{get_or-eq_default as List·getD-eq-default}
use Rattle.std.proofs.Math.Option.{Option, some, none}
use Rattle.std.proofs.lemmas.Bool.Decides.{nat_tests}
use Rattle.lists.specs.{Lists.allb, Tests.either}
use Rattle.protocol.specs.Frames.{Line, between, digit, pair, bytes}
use Rattle.frames.specs.Decode.{or_zero, is_some, digit_value, is_digit, pairs, decoded, is_hexadecimal}

module _ (f : ℕ → ℕ) where
  pub length_pairs : (l : Line) → length (pairs f l) ≡ length l / 2
  unfolding pairs
  length_pairs [] = refl
  length_pairs (x ∷ []) = refl
  length_pairs (x ∷ y ∷ l) = let h = length_pairs l in omega arith

  pub get_or_pairs : (l : Line) (i : ℕ) → i < length l / 2 → get_or (pairs f l) i 0 ≡ f (get_or l (2 * i) 0) * 16 + f (get_or l (2 * i + 1) 0)
  unfolding pairs
  get_or_pairs [] i h = absurd (omega arith)
  get_or_pairs (x ∷ []) i h = absurd (omega arith)
  get_or_pairs (x ∷ y ∷ l) zero h = refl
  get_or_pairs (x ∷ y ∷ l) (suc i) h =
      let e : 2 * suc i ≡ suc (suc (2 * i)) = omega arith in
      let g : suc (suc (2 * i)) + 1 ≡ suc (suc (2 * i + 1)) = omega arith in
      get_or_pairs l i (omega arith) ∙ rw (e, g)

pub length_decoded : (l : Line) → length (decoded l) ≡ length l / 2
unfolding decoded
length_decoded l = length_pairs digit_value l

pub decoded_at : (l : Line) (i : ℕ) → i < length l / 2 → get_or (decoded l) i 0 ≡ digit_value (get_or l (2 * i) 0) * 16 + digit_value (get_or l (2 * i + 1) 0)
unfolding decoded
decoded_at l i h = get_or_pairs digit_value l i h

pub digit_small : (x : ℕ) → digit_value x < 16
unfolding digit_value digit or_zero between
digit_small x = grind (arith, nat_tests)

pub no_digit_value : (x : ℕ) → is_digit x ≡ false → digit_value x ≡ 0
unfolding is_digit digit_value digit is_some or_zero between
no_digit_value x e = grind (arith, nat_tests)

pub byte_small : (l : Line) (i : ℕ) → get_or (decoded l) i 0 ≤ 255
unfolding decoded pairs
byte_small [] i = let z = List·getD-eq-default {A = ℕ} [] 0 {n = i} (omega arith) in omega arith
byte_small (x ∷ []) i = let z = List·getD-eq-default {A = ℕ} [] 0 {n = i} (omega arith) in omega arith
byte_small (x ∷ y ∷ l) zero = omega (arith, digit_small x, digit_small y)
byte_small (x ∷ y ∷ l) (suc i) = byte_small l i

pub decoded_end : (l : Line) (i : ℕ) → length l / 2 ≤ i → get_or (decoded l) i 0 ≡ 0
decoded_end l i h = List·getD-eq-default (decoded l) 0 {n = i} (omega (arith, length_decoded l))

-- one pair more
bytes_pair : (a b : Option ℕ) (e h : Bool) (d : List ℕ)
    → pair a b (cond (e && h) (some d) none) ≡ cond (e && (is_some a && (is_some b && h))) (some ((or_zero a * 16 + or_zero b) ∷ d)) none
unfolding pair is_some or_zero
bytes_pair none b e h d = rw (and-false e)
bytes_pair (some a) none e h d = rw (and-false e)
bytes_pair (some a) (some b) e h d = either (e && h) (λ t. rw t) (λ t. rw t)

pub bytes_decoded : (l : Line) → bytes l ≡ cond (is_hexadecimal l) (some (decoded l)) none
unfolding bytes is_hexadecimal allb decoded pairs digit_value is_digit
bytes_decoded [] = refl
bytes_decoded (x ∷ []) = refl
bytes_decoded (x ∷ y ∷ l) =
    let e : suc (suc (length l)) % 2 ≡ length l % 2 = omega arith in
    rw (bytes_decoded l, e) (bytes_pair (digit x) (digit y) (eqb (length l % 2) 0) (allb is_digit l) (decoded l))
