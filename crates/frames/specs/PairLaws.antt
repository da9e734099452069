-- A line by its kind's two characters, and by the pairs behind them.
use Rattle.std.specs.Prelude.{None, Bool, true, false, ◌&&◌, [], ◌∷◌, ◌≡◌, refl, ℕ, zero, suc, ◌+◌, ◌*◌, ◌≤◌, ◌%◌, length, drop}
use Rattle.std.proofs.Common.{sym, ◌∙◌, arith, eq-eqb}
use Rattle.std.proofs.Math.Bool.{and-false, and_assoc}
use Rattle.lists.specs.{Lists.{allb, allb_true}, Counting.{counting, mem_counting}, Tests.{either, true_not_false}}
use Rattle.protocol.specs.Frames.{Line, parts}
use Rattle.frames.specs.{Decode.{is_digit, is_pair, decoded, is_hexadecimal}, Read.{read_as, behind_kind}}

pair_next : (x y : ℕ) (l : Line) (i : ℕ) → is_pair (x ∷ y ∷ l) (suc i) ≡ is_pair l i
unfolding is_pair
pair_next x y l i =
    let e : 2 * suc i ≡ suc (suc (2 * i)) = omega arith in
    let g : suc (suc (2 * i)) + 1 ≡ suc (suc (2 * i + 1)) = omega arith in
    rw (e, g)

-- ---- the kind: both are digits, and the rest decides; or one is none
pub no_kind : (l : Line) → 2 ≤ length l → is_pair l 0 ≡ false → is_hexadecimal l ≡ false
unfolding is_hexadecimal allb is_pair
no_kind [] h e = absurd (omega arith)
no_kind (x ∷ []) h e = absurd (omega arith)
no_kind (x ∷ y ∷ l) h e = rw (← and_assoc (is_digit x) (is_digit y) (allb is_digit l), e) (and-false _)

pub a_kind : (l : Line) → 2 ≤ length l → is_pair l 0 ≡ true → is_hexadecimal l ≡ is_hexadecimal (drop 2 l)
unfolding is_hexadecimal allb is_pair
a_kind [] h e = absurd (omega arith)
a_kind (x ∷ []) h e = absurd (omega arith)
a_kind (x ∷ y ∷ l) h e =
    let even : suc (suc (length l)) % 2 ≡ length l % 2 = omega arith in
    rw (even, ← and_assoc (is_digit x) (is_digit y) (allb is_digit l), e)

-- ---- behind the kind: q says of m pairs from the k-th on what they are
all_pairs : (l : Line) (m k : ℕ) (q : ℕ → Bool) → length l ≡ 2 * m → ((i : ℕ) → q (k + i) ≡ is_pair l i) → allb is_digit l ≡ allb q (counting m k)
unfolding allb counting is_pair
all_pairs [] zero k q e h = refl
all_pairs [] (suc m) k q e h = absurd (omega arith)
all_pairs (x ∷ []) m k q e h = absurd (omega arith)
all_pairs (x ∷ y ∷ l) zero k q e h = absurd (omega arith)
all_pairs (x ∷ y ∷ l) (suc m) k q e h =
    let z : k + 0 ≡ k = omega arith in
    let first : q k ≡ (is_digit x && is_digit y) = rw z at (h 0) in
    let rest = all_pairs l m (suc k) q (omega arith) (λ i. let s : suc k + i ≡ k + suc i = omega arith in rw s (h (suc i) ∙ pair_next x y l i)) in
    rw (first, ← rest) (sym (and_assoc (is_digit x) (is_digit y) (allb is_digit l)))

behind_pairs : (l : Line) (n : ℕ) → length l ≡ 2 * suc n → is_hexadecimal (drop 2 l) ≡ allb (is_pair l) (counting n 1)
unfolding is_hexadecimal
behind_pairs [] n long = absurd (omega arith)
behind_pairs (x ∷ []) n long = absurd (omega arith)
behind_pairs (x ∷ y ∷ l) n long =
    let even : length l % 2 ≡ 0 = omega arith in
    rw (eq-eqb (length l % 2) 0 even)
    (all_pairs l n 1 (is_pair (x ∷ y ∷ l)) (omega arith) (λ i. let e : 1 + i ≡ suc i = omega arith in rw e (pair_next x y l i)))

module _ (l : Line) (k n : ℕ) (long : length l ≡ 2 * suc n) where
  pub behind_none : (i : ℕ) → 1 ≤ i → i ≤ n → is_pair l i ≡ false → None ≡ read_as (behind_kind l k)
  unfolding behind_kind read_as
  behind_none i low high e =
      rw (behind_pairs l n long)
      (either (allb (is_pair l) (counting n 1))
      (λ t. true_not_false (allb_true (is_pair l) (counting n 1) t i (mem_counting n 1 i low (omega arith))) e)
      (λ f. rw f))

  pub behind_parts : allb (is_pair l) (counting n 1) ≡ true → behind_kind l k ≡ parts (decoded l) k
  unfolding behind_kind
  behind_parts e = rw (behind_pairs l n long, e)
