-- A counted row of words: the count, then the items. A count above the room counts as the room.
use Rattle.std.specs.Prelude.{◌≡◌, Bool, List, ◌++◌, ℕ, suc, ◌+◌, ◌-◌, ◌*◌, ◌%◌, ◌≤◌, ◌<◌, min, eqb, length, take, drop, get_or, set}
use Rattle.std.proofs.Common.{sym, ap, ◌∙◌, append-nil, arith, length-drop, length-set, drop_of_length-le, get_or-drop, drop-set-lt, get_or-set_same, get_or-set_other, take-take, take_all}
use Rattle.std.proofs.lemmas.List.{drop-set-add}
use Rattle.arrays.specs.{Front.{push, front_length, front_at, put_at, push_room, no_room}}

unfoldable pub row : List ℕ → List ℕ
row ws = take (min (get_or ws 0 0) (length ws - 1)) (drop 1 ws)

-- the list without what stands at i
unfoldable pub without : {A : Type 0} → ℕ → List A → List A
without i l = take i l ++ drop (suc i) l

-- the place values of an item's lowest fields above the SN
abbrev pub PEER : ℕ
PEER = 65536

abbrev pub OWNER : ℕ
OWNER = 16 * PEER

-- a word with this peer and SN in its lowest fields
unfoldable pub named : ℕ → ℕ → ℕ → Bool
named peer sn w = eqb (w % OWNER) (sn + PEER * peer)

module _ {A : Type 0} where
  pub without_last : (l : List A) (j : ℕ) → length l ≤ j + 1 → without j l ≡ take j l
  unfolding without
  without_last l j h = rw (drop_of_length-le l {i = suc j} (omega arith)) (append-nil (take j l))

  pub without_none : (l : List A) (j : ℕ) → length l ≤ j → without j l ≡ l
  without_none l j h = without_last l j (omega arith) ∙ take_all j l h

module _ (ws : List ℕ) where
  size : length (drop 1 ws) ≡ length ws - 1
  size = length-drop 1 ws

  item : (i : ℕ) → get_or (drop 1 ws) i 0 ≡ get_or ws (i + 1) 0
  item i = let e : 1 + i ≡ i + 1 = omega arith in get_or-drop 1 ws i 0 ∙ rw e

  pub row_length : length (row ws) ≡ min (get_or ws 0 0) (length ws - 1)
  unfolding row
  row_length = front_length (drop 1 ws) (length ws - 1) (get_or ws 0 0) size

  pub row_at : (i : ℕ) → i < length (row ws) → get_or ws (i + 1) 0 ≡ get_or (row ws) i 0
  unfolding row
  row_at i h = sym (item i) ∙ front_at (drop 1 ws) (length ws - 1) (get_or ws 0 0) size i 0 (omega (arith, row_length))

  -- a word is written
  pub row_set : (i x : ℕ) → i < length (row ws) → row (set ws (i + 1) x) ≡ set (row ws) i x
  unfolding row
  row_set i x h =
      let e : i + 1 ≡ 1 + i = omega arith in
      let n : get_or (set ws (1 + i) x) 0 0 ≡ get_or ws 0 0 = get_or-set_other ws (1 + i) 0 x 0 (λ q. omega arith) in
      rw (e, n, length-set, drop-set-add) (put_at (drop 1 ws) (length ws - 1) (get_or ws 0 0) size i x (omega (arith, row_length)))

  pub row_set_length : (i x : ℕ) → i < length (row ws) → length (row (set ws (i + 1) x)) ≡ length (row ws)
  row_set_length i x h = ap length (row_set i x h) ∙ length-set (row ws) i x

  -- a word more; n words are there
  pub row_push : (n x : ℕ) → n ≡ length (row ws) → n + 1 < length ws → row (set (set ws (n + 1) x) 0 (n + 1)) ≡ push (length ws - 1) (row ws) x
  unfolding row
  row_push n x q h =
      let c : get_or ws 0 0 ≡ n = omega (arith, row_length) in
      let e : n + 1 ≡ 1 + n = omega arith in
      let f : get_or (set (set ws (1 + n) x) 0 (1 + n)) 0 0 ≡ 1 + n = get_or-set_same (set ws (1 + n) x) 0 (1 + n) 0 (simp length-set (omega arith)) in
      rw (e, f, length-set, length-set, drop-set-lt 1 (set ws (1 + n) x) 0 (1 + n) (omega arith), drop-set-add, c) (rw (← e) (push_room (drop 1 ws) (length ws - 1) n size x (omega arith)))

  pub row_full : (x : ℕ) → length ws ≤ length (row ws) + 1 → row ws ≡ push (length ws - 1) (row ws) x
  unfolding row
  row_full x h = no_room (drop 1 ws) (length ws - 1) (get_or ws 0 0) size x (omega (arith, row_length))

  -- only the first j count
  pub row_cut : (j : ℕ) → 0 < length ws → j ≤ length (row ws) → row (set ws 0 j) ≡ take j (row ws)
  unfolding row
  row_cut j s h =
      let l = row_length in
      let f : get_or (set ws 0 j) 0 0 ≡ j = get_or-set_same ws 0 j 0 s in
      let g : min j (length ws - 1) ≡ j = omega arith in
      rw (f, length-set, g, drop-set-lt 1 ws 0 j (omega arith)) (sym (take-take j (min (get_or ws 0 0) (length ws - 1)) (drop 1 ws) (omega arith)))
