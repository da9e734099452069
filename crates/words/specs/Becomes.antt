-- What is left of a row, word by word. A view says what its words mean.
use Rattle.std.specs.Prelude.{◌≡◌, refl, cond, List, map, ℕ, ◌+◌, ◌-◌, ◌≤◌, ◌<◌, eqb, length, take, drop, get_or, set}
use Rattle.std.proofs.Common.{sym, ap, ◌∙◌, arith, eq-eqb, ne_eqb, length-set, length-append, length-take, drop-drop, drop-set-lt, get_or-set_same, get_or-set_other}
use Rattle.std.proofs.lemmas.List.{length-map}
use Rattle.arrays.specs.Front.{push, push_fits}
use Rattle.words.specs.Rows.{row, row_length, row_set, row_set_length, row_push, row_cut}

-- A row becomes l, and every word is said: the items, the count word (as it was where the number of items stays), the words behind.
pub record Becomes {A : Type 0} (view : List ℕ → List A) (before after : List ℕ) (l : List A) : Type 0 where
  pub items : view after ≡ l
  pub count : get_or after 0 0 ≡ cond (eqb (length l) (length (view before))) (get_or before 0 0) (length l)
  pub behind : drop (length l + 1) after ≡ drop (length l + 1) before

module _ {A : Type 0} (view : List ℕ → List A) where
  pub becomes_same : (ws : List ℕ) {l : List A} → view ws ≡ l → Becomes view ws ws l
  becomes_same ws e = record { items = e; count = rw (← e, eq-eqb (length (view ws)) (length (view ws)) refl); behind = refl }

  pub becomes_as : {before after : List ℕ} {l k : List A} → Becomes view before after l → l ≡ k → Becomes view before after k
  becomes_as b e = rw (← e) b

-- what the words mean; f says it of each
pub becomes_mapped : {A : Type 0} (f : ℕ → A) {before after l : List ℕ} {k : List A} → Becomes row before after l → map f l ≡ k → Becomes (λ ws. map f (row ws)) before after k
becomes_mapped f {before} {after} {l} b e = rw (← e) (record {
  items = ap (map f) b.items;
  count = rw (length-map l f, length-map (row before) f) b.count;
  behind = rw (length-map l f) b.behind;
})

-- only items below n are written
pub record Beside (n : ℕ) (before after : List ℕ) : Type 0 where
  pub count : get_or after 0 0 ≡ get_or before 0 0
  pub behind : drop (n + 1) after ≡ drop (n + 1) before

pub beside_same : (n : ℕ) (ws : List ℕ) → Beside n ws ws
beside_same n ws = record { count = refl; behind = refl }

pub beside_then : {n : ℕ} {a b c : List ℕ} → Beside n a b → Beside n b c → Beside n a c
beside_then p q = record { count = q.count ∙ p.count; behind = q.behind ∙ p.behind }

pub beside_set : (n m i x : ℕ) {old : List ℕ} (ws : List ℕ) → Beside n old ws → n ≤ m → i < m → Beside m old (set ws (i + 1) x)
beside_set n m i x {old} ws b le lt =
    let d : n + 1 + (m - n) ≡ m + 1 = omega arith in
    record {
      count = get_or-set_other ws (i + 1) 0 x 0 (λ q. omega arith) ∙ b.count;
      behind = drop-set-lt (m + 1) ws (i + 1) x (omega arith) ∙ (rw d at (sym (drop-drop (m - n) (n + 1) ws) ∙ ap (drop (m - n)) b.behind ∙ drop-drop (m - n) (n + 1) old));
    }

-- as many items as before
pub beside_all : {n : ℕ} (old ws : List ℕ) → Beside n old ws → n ≡ length (row old) → n ≡ length (row ws) → Becomes row old ws (row ws)
beside_all old ws b p q = record { items = refl; count = rw (eq-eqb (length (row ws)) (length (row old)) (omega arith)) b.count; behind = rw (← q) b.behind }

pub beside_write : {n : ℕ} (i x : ℕ) (old ws : List ℕ) → Beside n old ws → n ≡ length (row old) → n ≡ length (row ws) → i < n → Becomes row old (set ws (i + 1) x) (row (set ws (i + 1) x))
beside_write {n} i x old ws b p q h =
    beside_all old (set ws (i + 1) x) (beside_set n n i x ws b (omega arith) h) p (q ∙ sym (row_set_length ws i x (omega arith)))

pub becomes_beside : {old ws l : List ℕ} (n : ℕ) → Becomes row old ws l → length l ≡ n → n ≡ length (row old) → Beside n old ws
becomes_beside {old} {ws} {l} n b e s = record { count = rw (eq-eqb (length l) (length (row old)) (e ∙ s)) at b.count; behind = rw e at b.behind }

-- only the first k of them
pub beside_cut : (k : ℕ) (old ws : List ℕ) → length (row ws) ≡ length (row old) → k < length (row ws) → Beside k old ws → Becomes row old (set ws 0 k) (take k (row ws))
beside_cut k old ws same h b =
    let e : length (take k (row ws)) ≡ k = rw length-take (omega arith) in
    let s : 0 < length ws = omega (arith, row_length ws) in
    record {
      items = row_cut ws k s (omega arith);
      count = rw (e, ne_eqb k (length (row old)) (λ e. omega arith)) (get_or-set_same ws 0 k 0 s);
      behind = rw e (drop-set-lt (k + 1) ws 0 k (omega arith) ∙ b.behind);
    }

module _ (ws : List ℕ) where
  pub becomes_set : (i x : ℕ) → i < length (row ws) → Becomes row ws (set ws (i + 1) x) (set (row ws) i x)
  becomes_set i x h = becomes_as row (beside_write i x ws ws (beside_same (length (row ws)) ws) refl refl h) (row_set ws i x h)

  pub becomes_push : (n x : ℕ) → n ≡ length (row ws) → n + 1 < length ws → Becomes row ws (set (set ws (n + 1) x) 0 (n + 1)) (push (length ws - 1) (row ws) x)
  becomes_push n x q h =
      let k : length (push (length ws - 1) (row ws) x) ≡ n + 1 = rw (push_fits (length ws - 1) (row ws) x (omega arith), length-append) (omega arith) in
      record {
        items = row_push ws n x q h;
        count = rw (k, ne_eqb (n + 1) (length (row ws)) (λ e. omega arith)) (get_or-set_same (set ws (n + 1) x) 0 (n + 1) 0 (simp length-set (omega arith)));
        behind = rw k (drop-set-lt (n + 1 + 1) (set ws (n + 1) x) 0 (n + 1) (omega arith) ∙ drop-set-lt (n + 1 + 1) ws (n + 1) x (omega arith));
      }
