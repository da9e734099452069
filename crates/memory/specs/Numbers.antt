-- The words of a memory that a work or a send writes: state, height, a mark, a window, an SN count.
use Rattle.std.proofs.Common.{set-set, ap, ◌∙◌, arith, mod-eq_of_lt, length-set}
use Rattle.std.proofs.lemmas.List.{set_comm, set-get_or, length-map}
use Rattle.std.specs.Prelude.{◌≡◌, Bool, List, [], ◌∷◌, map, ℕ, ◌+◌, ◌%◌, ◌≤◌, ◌<◌, eqb, length, get_or, set}
use Rattle.std.proofs.Math.Path.{fun_ext}
use Rattle.lists.specs.{Tests.either, Map.upd}
use Rattle.arrays.specs.ArrayMap.{as_map}
use Rattle.protocol.specs.Parts.{Memory}
use Rattle.protocol.specs.Setters.{with_sn}
use Rattle.window.specs.{declared.bits.Window.Window, Bits.window_bits}
use Rattle.words.specs.{Part.{part, part_length}, PartSet.{part_set, part_set_before, part_set_behind}, Mapped.map_set}
use Rattle.memory.specs.{declared.Numbers.Numbers, Places.{STATE, HEIGHT, NUMBERS, SN, MARK, LOW, HIGH, TABLE, ROW, LOG, MEMORY}, View.{windows, memory_view}}
use Rattle.arrays.specs.ArrayMap as arrays

-- the five words as they stand, for the sender s
unfoldable pub taken : List ℕ → ℕ → Numbers
taken ws s = record { state = get_or ws STATE 0; height = get_or ws HEIGHT 0; mark = get_or ws (MARK + s) 0; window = record { low = get_or ws (LOW + s) 0; high = get_or ws (HIGH + s) 0 } }

-- the five words written
unfoldable pub given : List ℕ → ℕ → Numbers → List ℕ
given ws s x = set (set (set (set (set ws STATE x.state) HEIGHT x.height) (MARK + s) x.mark) (LOW + s) x.window.low) (HIGH + s) x.window.high

-- a memory with other maps, with another state and height, and with other numbers for the sender s
module _ (m : Memory) where
  abbrev with_maps : (ℕ → ℕ) → (ℕ → ℕ) → (ℕ → ℕ → Bool) → Memory
  with_maps sn mark window = record { state = m.state; height = m.height; sn = sn; mark = mark; window = window; highest_at_restart = m.highest_at_restart; table = m.table; log = m.log }

  abbrev with_windows : (ℕ → ℕ → Bool) → Memory
  with_windows = with_maps m.sn m.mark

  abbrev with_front : ℕ → ℕ → Memory
  with_front state height = record { state = state; height = height; sn = m.sn; mark = m.mark; window = m.window; highest_at_restart = m.highest_at_restart; table = m.table; log = m.log }

unfoldable pub with_numbers : Memory → ℕ → Numbers → Memory
with_numbers m s x = with_maps (with_front m x.state x.height) m.sn (upd s x.mark m.mark) (upd s (window_bits x.window) m.window)

-- written, then written again as they stood: every word is as it was
pub give_back : (ws : List ℕ) (s : ℕ) (x : Numbers) → given (given ws s x) s (taken ws s) ≡ ws
unfolding given taken
give_back ws s x = rw (
  set_comm _ (HIGH + s) STATE _ _ (λ e. omega arith),
  set_comm _ (LOW + s) STATE _ _ (λ e. omega arith),
  set_comm _ (MARK + s) STATE _ _ (λ e. omega arith),
  set_comm _ HEIGHT STATE _ _ (λ e. omega arith),
  set_comm _ (HIGH + s) HEIGHT _ _ (λ e. omega arith),
  set_comm _ (LOW + s) HEIGHT _ _ (λ e. omega arith),
  set_comm _ (MARK + s) HEIGHT _ _ (λ e. omega arith),
  set_comm _ (HIGH + s) (MARK + s) _ _ (λ e. omega arith),
  set_comm _ (LOW + s) (MARK + s) _ _ (λ e. omega arith),
  set_comm _ (HIGH + s) (LOW + s) _ _ (λ e. omega arith),
) (simp (set-set, set-get_or))

-- ---- one word written
module _ (ws : List ℕ) (size : length ws ≡ MEMORY) (x : ℕ) where
  -- 16 words of 16 bits from b on
  words_set : (b r : ℕ) → r < 16 → b + 16 ≤ MEMORY → x < 65536 → as_map 0 (map (◌% 65536) (set (part b 16 ws) r x)) ≡ upd r x (as_map 0 (map (◌% 65536) (part b 16 ws)))
  words_set b r h room small =
      ap (as_map 0) (map_set (◌% 65536) (part b 16 ws) r x)
      ∙ arrays.map_set 0 (map (◌% 65536) (part b 16 ws)) r (x % 65536) (omega (arith, length-map (part b 16 ws) (◌% 65536), part_length b 16 ws (omega arith)))
      ∙ rw (mod-eq_of_lt small)

  -- a word of the maps
  map_word : (i : ℕ) → NUMBERS ≤ i → i < TABLE → {a b c d : List ℕ} → part SN 16 (set ws i x) ≡ a → part MARK 16 (set ws i x) ≡ b → part LOW 16 (set ws i x) ≡ c → part HIGH 16 (set ws i x) ≡ d
      → memory_view (set ws i x) ≡ with_maps (memory_view ws) (as_map 0 (map (◌% 65536) a)) (as_map 0 (map (◌% 65536) b)) (windows c d)
  unfolding memory_view
  map_word i low high p q r t =
      rw (part_set_behind 0 NUMBERS ws x i low, p, q, r, t, part_set_before TABLE ROW ws x i high, part_set_before LOG ROW ws x i (omega arith))

  pub sn_set : (r : ℕ) → r < 16 → x < 65536 → memory_view (set ws (SN + r) x) ≡ with_sn (memory_view ws) (upd r x (memory_view ws).sn)
  unfolding memory_view
  sn_set r h small =
      let i = SN + r in
      map_word i (omega arith) (omega arith) (part_set SN 16 ws x r h) (part_set_before MARK 16 ws x i (omega arith)) (part_set_before LOW 16 ws x i (omega arith)) (part_set_before HIGH 16 ws x i (omega arith))
      ∙ rw (words_set SN r h (omega arith) small)

  mark_set : (r : ℕ) → r < 16 → x < 65536 → memory_view (set ws (MARK + r) x)
      ≡ with_maps (memory_view ws) (memory_view ws).sn (upd r x (memory_view ws).mark) (memory_view ws).window
  unfolding memory_view
  mark_set r h small =
      let i = MARK + r in
      map_word i (omega arith) (omega arith) (part_set_behind SN 16 ws x i (omega arith)) (part_set MARK 16 ws x r h) (part_set_before LOW 16 ws x i (omega arith)) (part_set_before HIGH 16 ws x i (omega arith))
      ∙ rw (words_set MARK r h (omega arith) small)

  low_set : (r : ℕ) → r < 16 → memory_view (set ws (LOW + r) x) ≡ with_windows (memory_view ws) (windows (set (part LOW 16 ws) r x) (part HIGH 16 ws))
  unfolding memory_view
  low_set r h =
      let i = LOW + r in
      map_word i (omega arith) (omega arith) (part_set_behind SN 16 ws x i (omega arith)) (part_set_behind MARK 16 ws x i (omega arith)) (part_set LOW 16 ws x r h) (part_set_before HIGH 16 ws x i (omega arith))

  high_set : (r : ℕ) → r < 16 → memory_view (set ws (HIGH + r) x) ≡ with_windows (memory_view ws) (windows (part LOW 16 ws) (set (part HIGH 16 ws) r x))
  unfolding memory_view
  high_set r h =
      let i = HIGH + r in
      map_word i (omega arith) (omega arith) (part_set_behind SN 16 ws x i (omega arith)) (part_set_behind MARK 16 ws x i (omega arith)) (part_set_behind LOW 16 ws x i (omega arith)) (part_set HIGH 16 ws x r h)

-- a window in both words
windows_set : (lows highs : List ℕ) (r : ℕ) (w : Window) → r < length lows → r < length highs
    → windows (set lows r w.low) (set highs r w.high) ≡ upd r (window_bits w) (windows lows highs)
unfolding windows upd
windows_set lows highs r w f g =
    (λ i s. window_bits (record { low = arrays.map_set 0 lows r w.low f i s; high = arrays.map_set 0 highs r w.high g i s }))
    ∙ fun_ext (λ s. either (eqb s r) (λ e. rw e) (λ e. rw e))

window_set : (ws : List ℕ) → length ws ≡ MEMORY → (r : ℕ) (w : Window) → r < 16
    → memory_view (set (set ws (LOW + r) w.low) (HIGH + r) w.high) ≡ with_windows (memory_view ws) (upd r (window_bits w) (memory_view ws).window)
unfolding memory_view
window_set ws size r w h =
    high_set (set ws (LOW + r) w.low) (simp length-set size) w.high r h
    ∙ (λ i. with_windows (low_set ws size w.low r h i) (windows (part_set LOW 16 ws w.low r h i) (set (part_set_before HIGH 16 ws w.low (LOW + r) (omega arith) i) r w.high)))
    ∙ ap (with_windows (memory_view ws)) (windows_set (part LOW 16 ws) (part HIGH 16 ws) r w (omega (arith, part_length LOW 16 ws (omega arith))) (omega (arith, part_length HIGH 16 ws (omega arith))))

-- the first two words
front_set : (ws : List ℕ) → length ws ≡ MEMORY → (a b : ℕ) → a < 4294967296 → b < 65536 → memory_view (set (set ws STATE a) HEIGHT b) ≡ with_front (memory_view ws) a b
unfolding memory_view
front_set [] size a b p q = absurd (omega arith)
front_set (_ ∷ []) size a b p q = absurd (omega arith)
front_set (_ ∷ _ ∷ ws) size a b p q = rw (mod-eq_of_lt p, mod-eq_of_lt q)

pub numbers_given : (ws : List ℕ) → length ws ≡ MEMORY → (s : ℕ) (x : Numbers) → s < 16 → x.state < 4294967296 → x.height < 65536 → x.mark < 65536
    → memory_view (given ws s x) ≡ with_numbers (memory_view ws) s x
unfolding with_numbers given
numbers_given ws size s x h state-in height-in mark-in =
    let front = set (set ws STATE x.state) HEIGHT x.height in
    rw (
      window_set (set front (MARK + s) x.mark) (simp length-set size) s x.window h,
      mark_set front (simp length-set size) x.mark s h mark-in,
      front_set ws size x.state x.height state-in height-in,
    )
