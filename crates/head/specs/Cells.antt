-- What an array of a job's numbers says at an index.
use Rattle.std.specs.Prelude.{List, ◌≡◌, ℕ, ◌+◌, ◌<◌, ◌≤◌, min, eqb, length, get_or, set, replicate}
use Rattle.std.proofs.Common.{inl, inr, sym, ◌∙◌, arith, eqb-true, ne_eqb, get_or-set_same, get_or-set_other}
use Rattle.std.proofs.Math.ListN.{get_or-eq_default as List·getD-eq-default}
use Rattle.lists.specs.Tests.{either, eq?, lt?}
use Rattle.arrays.specs.ArrayMap.{as_map}
use Rattle.words.specs.Zeros.{zero_at}
use Rattle.head.specs.Head.{cell}

module _ (m : ℕ) (l : List ℕ) (k : ℕ) where
  -- a word that is 0
  cell_blank : get_or l k 0 ≡ 0 → cell m l k ≡ 0
  unfolding cell
  cell_blank e = either (eqb k 0) (λ t. rw t) (λ t. rw (t, e) (omega arith))

  pub cell_end : length l ≤ k → cell m l k ≡ 0
  cell_end h = cell_blank (List·getD-eq-default l 0 {n = k} h)

  -- a word read in two steps
  pub cell_read : (k ≡ 0 → ⊥) → (w r : ℕ) → w ≡ as_map 0 l k → r ≡ min w m → (r ≡ cell m l k) × (r ≤ m)
  unfolding cell as_map
  cell_read n w r e f = (f ∙ rw (e, ne_eqb k 0 n), omega arith)

pub cell_none : (m n k : ℕ) → cell m (replicate n 0) k ≡ 0
cell_none m n k = cell_blank m (replicate n 0) k (zero_at n k)

-- ---- an array that has f at each index below i
unfoldable pub Filled : (ℕ → ℕ) → List ℕ → ℕ → Type 0
Filled f l i = (j : ℕ) → j < i → get_or l j 0 ≡ f j

pub fill_more : (f : ℕ → ℕ) (l : List ℕ) (i v : ℕ) → Filled f l i → i < length l → v ≡ f i → Filled f (set l i v) (i + 1)
unfolding Filled
fill_more f l i v h r e j k = elim (eq? j i) [
  | inl q ↦ rw q (get_or-set_same l i v 0 r ∙ e)
  | inr n ↦ get_or-set_other l i j v 0 n ∙ h j (omega arith)
]

pub fill_end : (f : ℕ → ℕ) (l : List ℕ) (i n : ℕ) → Filled f l i → n ≤ i → Filled f l n
unfolding Filled
fill_end f l i n h r j k = h j (omega arith)

-- filled with the values of a map that is 0 at 0 and from n on, none above m
pub cell_filled : (m n : ℕ) (l : List ℕ) (f : ℕ → ℕ) → length l ≡ n → Filled f l n → f 0 ≡ 0 → ((j : ℕ) → n ≤ j → f j ≡ 0) → ((j : ℕ) → f j ≤ m) → (k : ℕ) → cell m l k ≡ f k
unfolding Filled cell
cell_filled m n l f size h low high top k = either (eqb k 0)
    (λ e. rw (eqb-true k 0 e) (sym low))
    (λ e. elim (lt? k n) [
      | inl r ↦ rw (e, h k r) (omega (arith, top k))
      | inr r ↦ rw (e, List·getD-eq-default l 0 {n = k} (omega arith), high k r) (omega arith)
    ])
