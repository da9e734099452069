-- "A set is a word with one bit per machine": the words 0 to 2^M - 1 are all sets, in the order of the definition.
use Rattle.std.specs.Prelude.{◌≡◌, refl, Bool, true, false, cond, ◌&&◌, List, [], ◌∷◌, ◌++◌, map, ℕ, zero, suc, ◌+◌, ◌-◌, ◌*◌, ◌^◌, ◌/◌, ◌%◌, ◌<◌, ◌≤◌, length, eqb}
use Rattle.std.proofs.Common.{sym, ap, ◌∙◌, arith, eq-eqb, ne_eqb, pow-suc, inl, inr}
use Rattle.std.proofs.Math.Nat.{div-eq_of_lt}
use Rattle.std.proofs.lemmas.List.{length-map}
use Rattle.lists.specs.{Tests.{either, eq?, lt?}, Lists.{anyb, keep_keep, keep_map, map_append}, Counting.counting}
use Rattle.window.specs.{Bits.bits, BitLaws.low_bits}
use Rattle.protocol.specs.Parts.{Job}
use Rattle.arrays.specs.Loops.{tally}
use Rattle.crashsets.specs.CrashSets.{sets, has_size, stands, survives, total, survived}
use Rattle.std.specs.Int.Count.{ones_in, ones, ones_cat}
use Rattle.std.proofs.Math.Pow.{high, low}

-- the machines up to m that stand in the set of a word: machine p has bit p - 1
unfoldable pub set_of : ℕ → ℕ → List ℕ
set_of zero w = []
set_of (suc p) w = cond (bits w p) (suc p ∷ set_of p w) (set_of p w)

-- the words of m machines
unfoldable pub words : ℕ → List ℕ
words m = counting (2 ^ m) 0

-- only the bits below m count
set_same : (m v w : ℕ) → ((i : ℕ) → i < m → bits v i ≡ bits w i) → set_of m v ≡ set_of m w
unfolding set_of
set_same zero v w h = refl
set_same (suc m) v w h = rw (h m (omega arith), set_same m v w (λ i q. h i (omega arith)))

-- ---- one machine more: its bit is not set in the words of the others, and set in those from there on
module _ (m w : ℕ) (h : w < 2 ^ m) where
  bit_off : bits w m ≡ false
  unfolding bits
  bit_off = let z : w / 2 ^ m ≡ 0 = div-eq_of_lt h in rw z

  bit_on : bits (2 ^ m + w) m ≡ true
  unfolding bits
  bit_on = let e : 2 ^ m + w ≡ 1 * 2 ^ m + w = omega arith in rw (e, high 1 m h)

  same_below : (i : ℕ) → i < m → bits (2 ^ m + w) i ≡ bits w i
  same_below i q =
      let e : 2 ^ m + w ≡ 1 * 2 ^ m + w = omega arith in
      sym (low_bits (2 ^ m + w) m i q) ∙ ap (λ x. bits x i) (ap (λ (x : ℕ). x % 2 ^ m) e ∙ low 1 m h)

  without : set_of (suc m) w ≡ set_of m w
  unfolding set_of
  without = rw bit_off

  with_it : set_of (suc m) (2 ^ m + w) ≡ suc m ∷ set_of m w
  unfolding set_of
  with_it = rw (bit_on, set_same m (2 ^ m + w) w same_below)

-- f of n numbers from k on is g of those from 0 on
map_counting : {A : Type 0} (f g : ℕ → A) (n k b : ℕ) → ((i : ℕ) → b ≤ i → i < n + b → f (k + i) ≡ g i) → map f (counting n (k + b)) ≡ map g (counting n b)
unfolding counting
map_counting f g zero k b h = refl
map_counting f g (suc n) k b h =
    let e : suc (k + b) ≡ k + suc b = omega arith in
    rw (h b (omega arith) (omega arith), e, map_counting f g n k (suc b) (λ i p q. h i (omega arith) (omega arith)))

counting_append : (n k b : ℕ) → counting (n + k) b ≡ counting n b ++ counting k (n + b)
unfolding counting
counting_append zero k b = let e : 0 + k ≡ k = omega arith in let f : 0 + b ≡ b = omega arith in rw (e, f)
counting_append (suc n) k b =
    let e : suc n + k ≡ suc (n + k) = omega arith in
    let f : suc n + b ≡ n + suc b = omega arith in
    rw (e, f) (ap (b ∷◌) (counting_append n k (suc b)))

map_map : {A B C : Type 0} (f : B → C) (g : A → B) (l : List A) → map (λ x. f (g x)) l ≡ map f (map g l)
map_map f g [] = refl
map_map f g (x ∷ l) = ap (f (g x) ∷◌) (map_map f g l)

-- ---- the words are the sets
pub words_are_sets : (m : ℕ) → map (set_of m) (words m) ≡ sets m
unfolding words sets
words_are_sets zero = unfold counting set_of in refl
words_are_sets (suc m) =
    let e : 2 ^ suc m ≡ 2 ^ m + 2 ^ m = pow-suc 2 m ∙ omega arith in
    let low_half : map (set_of (suc m)) (counting (2 ^ m) 0) ≡ map (set_of m) (counting (2 ^ m) 0)
    = map_counting (set_of (suc m)) (set_of m) (2 ^ m) 0 0 (λ i p q. let z : 0 + i ≡ i = omega arith in rw z (without m i (omega arith))) in
    let high_half : map (set_of (suc m)) (counting (2 ^ m) (2 ^ m + 0)) ≡ map (λ w. suc m ∷ set_of m w) (counting (2 ^ m) 0)
    = map_counting (set_of (suc m)) (λ w. suc m ∷ set_of m w) (2 ^ m) (2 ^ m) 0 (λ i p q. with_it m i (omega arith)) in
    rw (e, counting_append (2 ^ m) (2 ^ m) 0, map_append (set_of (suc m)), low_half, high_half, map_map (suc m ∷◌) (set_of m), words_are_sets m)

-- ---- so the counts over words are those over all sets, whatever the layout
module _ (j : Job) (f : ℕ) where
  abbrev M : ℕ
  M = j.machines

  -- the tests on words
  abbrev pub is_counted : ℕ → Bool
  is_counted w = has_size f (set_of M w)

  abbrev pub is_survived : ℕ → Bool
  is_survived w = is_counted w && survives j (set_of M w)

  pub total_words : total j f ≡ tally is_counted (2 ^ M) 0
  unfolding total words
  total_words = rw (← words_are_sets M, keep_map (set_of M) (has_size f), length-map)

  pub survived_words : survived j f ≡ tally is_survived (2 ^ M) 0
  unfolding survived words
  survived_words = rw (← words_are_sets M, keep_keep (has_size f) (survives j), keep_map (set_of M) (λ s. has_size f s && survives j s), length-map)

-- ---- the size of a set is the number of ones in its word
pub size_ones : (m w : ℕ) → w < 2 ^ m → length (set_of m w) ≡ ones w
size_ones zero w h = let z : w ≡ 0 = omega arith in rw z (unfold set_of ones in refl)
size_ones (suc m) w h =
    let p : 2 ^ suc m ≡ 2 ^ m * 2 = pow-suc 2 m in
    elim (lt? w (2 ^ m)) [
      | inl l ↦ rw (without m w l) (size_ones m w l)
      | inr g ↦
          let r = w - 2 ^ m in
          let small : r < 2 ^ m = omega arith in
          let e : 2 ^ m + r ≡ w = omega arith in
          let one : ones 1 ≡ 1 = unfold ones ones_in in refl in
          let s : length (set_of (suc m) w) ≡ suc (ones r) = ap (λ x. length (set_of (suc m) x)) (sym e) ∙ rw (with_it m r small, size_ones m r small) in
          let t : ones w ≡ ones 1 + ones r = ap ones (sym e ∙ omega arith) ∙ ones_cat m 1 r small in
          s ∙ sym (t ∙ omega (arith, one))
    ]

-- ---- who stands in it
stands_above : (m w q : ℕ) → m < q → stands (set_of m w) q ≡ false
unfolding set_of stands anyb
stands_above zero w q h = refl
stands_above (suc m) w q h =
    let d : eqb q (suc m) ≡ false = ne_eqb q (suc m) (λ e. omega arith) in
    either (bits w m) (λ e. rw (e, d) (stands_above m w q (omega arith))) (λ e. rw e (stands_above m w q (omega arith)))

pub stands_bit : (m w q : ℕ) → 1 ≤ q → q ≤ m → stands (set_of m w) q ≡ bits w (q - 1)
unfolding set_of stands anyb
stands_bit zero w q l h = absurd (omega arith)
stands_bit (suc m) w q l h = elim (eq? q (suc m)) [
  | inl e ↦
      let k : q - 1 ≡ m = omega arith in
      either (bits w m)
      (λ b. rw (b, eq-eqb q (suc m) e, k, b))
      (λ b. rw (b, k, b) (stands_above m w q (omega arith)))
  | inr n ↦
      let d : eqb q (suc m) ≡ false = ne_eqb q (suc m) n in
      either (bits w m)
      (λ b. rw (b, d) (stands_bit m w q l (omega arith)))
      (λ b. rw b (stands_bit m w q l (omega arith)))
]
