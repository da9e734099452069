-- What a chare has after the restart: its copy, with another table and the top of that.
use Rattle.std.specs.Prelude.{◌≡◌, List, ℕ, ◌+◌, ◌-◌, ◌<◌, ◌≤◌, length, set}
use Rattle.std.proofs.Common.{sym, ◌∙◌, arith, mod-eq_of_lt, get_or-set_same, get_or-set_other}
use Rattle.lists.specs.Map.{upd}
use Rattle.protocol.specs.{declared.Entry.Entry, Parts.{Memory, State}, Setters.{with_table, with_highest_at_restart, with_live, with_status}, Tickets.highest, Restart.target_of}
use Rattle.words.specs.{Part.{part, put, part_length, part_put, put_length, put_again}, PartSet.{part_set, part_set_before}}
use Rattle.head.specs.Head.{TARGET}
use Rattle.tickets.specs.Table.{entries}
use Rattle.memory.specs.{Places.{STATE, HEIGHT, TOP, NUMBERS, SN, MARK, LOW, HIGH, TABLE, ROW, LOG, MEMORY}, View.{memory_view, table_put}}
use Rattle.store.specs.{Places.{STORE, live_from, copy_from}, View.view, ViewLaws.{copy_at, live_put, live_length, target_set}}

-- the memory m with the table l
unfoldable pub renewed : Memory → List Entry → Memory
renewed m l = with_highest_at_restart (with_table m l) (highest m.height l)

-- ---- a memory's words
top_set : (ws : List ℕ) (t : ℕ) → length ws ≡ MEMORY → t < 65536 → memory_view (set ws TOP t) ≡ with_highest_at_restart (memory_view ws) t
unfolding memory_view
top_set ws t size small =
    let n = part 0 NUMBERS ws in
    let long : length n ≡ NUMBERS = part_length 0 NUMBERS ws (omega arith) in
    rw (
      part_set 0 NUMBERS ws t TOP (omega arith),
      get_or-set_other n TOP STATE t 0 (λ q. omega arith),
      get_or-set_other n TOP HEIGHT t 0 (λ q. omega arith),
      get_or-set_same n TOP t 0 (omega arith),
      part_set_before SN 16 ws t TOP (omega arith),
      part_set_before MARK 16 ws t TOP (omega arith),
      part_set_before LOW 16 ws t TOP (omega arith),
      part_set_before HIGH 16 ws t TOP (omega arith),
      part_set_before TABLE ROW ws t TOP (omega arith),
      part_set_before LOG ROW ws t TOP (omega arith),
      mod-eq_of_lt small,
    )

pub renew_memory : (ws row ys : List ℕ) (h t : ℕ) → length ws ≡ MEMORY → length row ≡ ROW → h ≡ (memory_view ws).height → t ≡ highest h (entries row) → t < 65536 → ys ≡ row
    → memory_view (set (put TABLE ROW ws ys) TOP t) ≡ renewed (memory_view ws) (entries row)
unfolding renewed
renew_memory ws row ys h t size long is-h is-t small e =
    let fits : TABLE + ROW ≤ length ws = omega arith in
    rw e (top_set (put TABLE ROW ws row) t (put_length TABLE ROW ws row fits long ∙ size) small ∙ rw (table_put ws row size long, is-t, is-h))

-- ---- chare c, with the table l
unfoldable pub come_back : State → ℕ → List Entry → State
come_back s c l = with_live (with_status s s.status (upd c (target_of (renewed (s.copy c) l)) s.target)) (upd c (renewed (s.copy c) l) s.live)

module _ (xs : List ℕ) (size : length xs ≡ STORE) (c : ℕ) (h : c < 13) where
  abbrev long : ℕ
  long = (live_from c + MEMORY) - live_from c

  -- as it is done: the copy is put over the memory, which is lent and changed
  pub back_is : (l : List Entry) (ys zs : List ℕ) (t : ℕ) → zs ≡ put (live_from c) MEMORY xs (part (copy_from c) MEMORY xs) → length ys ≡ MEMORY
      → memory_view ys ≡ renewed (memory_view (part (live_from c) long zs)) l
      → t ≡ target_of (renewed (memory_view (part (live_from c) long zs)) l)
      → view (set (put (live_from c) long zs ys) (TARGET + c) t) ≡ come_back (view xs) c l
  unfolding come_back
  back_is l ys zs t z k e q =
      let d : long ≡ MEMORY = omega arith in
      let fits : live_from c + MEMORY ≤ length xs = omega arith in
      let copy = part (copy_from c) MEMORY xs in
      let size_of : length copy ≡ MEMORY = part_length (copy_from c) MEMORY xs (omega arith) in
      let lent : memory_view (part (live_from c) long zs) ≡ (view xs).copy c = rw (d, z, part_put (live_from c) MEMORY xs copy fits size_of) (sym (copy_at xs c h)) in
      rw (d, z, put_again (live_from c) MEMORY xs copy fits size_of ys)
      (target_set (put (live_from c) MEMORY xs ys) (live_length xs size c h ys k) t c h ∙ rw (live_put xs size c h ys k, e, q, lent))
