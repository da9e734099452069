-- A word less: those behind the gap at j move down by one, and the count falls.
use Rattle.std.specs.Prelude.{◌≡◌, List, ◌++◌, ℕ, suc, ◌+◌, ◌-◌, ◌≤◌, ◌<◌, min, length, take, drop, get_or, set}
use Rattle.std.specs.List.{copy_within}
use Rattle.std.proofs.Common.{sym, ap, ◌∙◌, arith, length-take, length-drop, get_or-take, drop-drop, take-take}
use Rattle.std.proofs.Math.ListN.{get_or-append as List·getD-append}
use Rattle.std.proofs.Math.Seq.{paste, length_paste_head}
use Rattle.std.proofs.lemmas.List.{drop-take, drop-append-le}
use Rattle.std.proofs.lemmas.List.Edits.{length-paste, drop-paste, take-paste}
use Rattle.words.specs.{Rows.{row, row_length, without}, Becomes.{Becomes, Beside, becomes_as, beside_cut}}

module _ (ws : List ℕ) (j : ℕ) where
  behind : List ℕ
  behind = drop (j + 2) ws

  -- m of them move; n is the count as it was
  module _ (out : List ℕ) (n m : ℕ) (is : out ≡ paste ws (j + 1) behind m) (up : (j + 1) + m ≡ n) (count : n ≡ length (row ws)) where
    room : n + 1 ≤ length ws
    room = omega (arith, count, row_length ws)

    long : m ≤ length behind
    unfolding behind
    long = rw length-drop (omega (arith, room))

    size : length out ≡ length ws
    size = rw is (length-paste ws (j + 1) behind m (omega (arith, room)) long)

    first : get_or out 0 0 ≡ get_or ws 0 0
    first = rw is (
        List·getD-append (take (j + 1) ws ++ take m behind) (drop ((j + 1) + m) ws) 0 0 (omega (arith, length_paste_head ws (j + 1) behind m (omega (arith, room)) long))
        ∙ List·getD-append (take (j + 1) ws) (take m behind) 0 0 (omega (arith, length-take (j + 1) ws, room))
        ∙ get_or-take (j + 1) ws 0 0 (omega arith))

    beside : Beside (n - 1) ws out
    beside =
        let e : n - 1 + 1 ≡ (j + 1) + m = omega arith in
        record { count = first; behind = rw (e, is) (drop-paste ws (j + 1) behind m (omega (arith, room)) long) }

    front : take n out ≡ take (1 + j) ws ++ take m behind
    front =
        let e : 1 + j ≡ j + 1 = omega arith in
        rw (e, is) (ap (λ k. take k (paste ws (j + 1) behind m)) (sym up) ∙ take-paste ws (j + 1) behind m (omega (arith, room)) long)

    -- what is left of the items as they stand now, and as they stood
    left_now : take (n - 1) (drop 1 out) ≡ take j (drop 1 ws) ++ take m behind
    left_now =
        let e : 1 + (n - 1) ≡ n = omega arith in
        let some : 1 ≤ length (take (1 + j) ws) = rw length-take (omega (arith, room)) in
        sym (drop-take 1 (n - 1) out) ∙ rw (e, front, drop-append-le 1 (take (1 + j) ws) (take m behind) some, drop-take 1 j ws)

    left : without j (take n (drop 1 ws)) ≡ take j (drop 1 ws) ++ take m behind
    unfolding without behind
    left =
        let e : n ≡ suc j + m = omega arith in
        let f : 1 + suc j ≡ j + 2 = omega arith in
        let g : drop (suc j) (drop 1 ws) ≡ drop (1 + suc j) ws = drop-drop (suc j) 1 ws in
        rw (take-take j n (drop 1 ws) (omega arith), e, drop-take (suc j) m (drop 1 ws), g, f)

    moved : take (n - 1) (row out) ≡ without j (row ws)
    unfolding row
    moved =
        let now : min (get_or out 0 0) (length out - 1) ≡ n = omega (arith, row_length ws, first, size) in
        let then : min (get_or ws 0 0) (length ws - 1) ≡ n = omega (arith, row_length ws) in
        rw (now, then, take-take (n - 1) n (drop 1 out) (omega arith)) (left_now ∙ sym left)

    cut : Becomes row ws (set out 0 (n - 1)) (without j (row ws))
    cut =
        let number : length (row out) ≡ length (row ws) = omega (arith, row_length out, row_length ws, first, size) in
        becomes_as row (beside_cut (n - 1) ws out number (omega (arith, number)) beside) moved

  pub becomes_without : (out : List ℕ) (n : ℕ) → out ≡ copy_within ws (j + 2) (n + 1) (j + 1) → n ≡ length (row ws) → j < n → Becomes row ws (set out 0 (n - 1)) (without j (row ws))
  unfolding behind
  becomes_without out n is count h = cut out n (n + 1 - (j + 2)) is (omega arith) count
