-- A chare's memory as words: state, height, top, 16 SN counts, 16 marks, the low and the high words of 16 windows, the table and
-- the log. A peer of an item is one of 16, so each has a mark.
use Rattle.std.specs.Prelude.{◌≡◌, refl, List, map, ℕ, ◌+◌, ◌%◌, ◌≤◌, ◌<◌, length, get_or}
use Rattle.std.proofs.Common.{sym, ap, ◌∙◌, arith}
use Rattle.std.proofs.Math.ListN.{get_or-map as List·getD-map}
use Rattle.std.proofs.lemmas.List.{length-map}
use Rattle.arrays.specs.ArrayMap.{as_map, map_beyond}
use Rattle.protocol.specs.{declared.Entry.Entry, declared.Logged.Logged, Window.Bits, Parts.Memory, Setters.{with_table, with_log}}
use Rattle.window.specs.Bits.{window_bits}
use Rattle.words.specs.Part.{part, put, part_at, part_length, part_put, part_before, part_behind}
use Rattle.memory.specs.Places.{STATE, HEIGHT, TOP, NUMBERS, SN, MARK, LOW, HIGH, TABLE, ROW, LOG, MEMORY}
use Rattle.tickets.specs.Table as tickets
use Rattle.logs.specs.Log as logs

-- the windows of two rows of words
unfoldable pub windows : List ℕ → List ℕ → ℕ → Bits
windows lows highs s = window_bits (record { low = as_map 0 lows s; high = as_map 0 highs s })

unfoldable pub memory_view : List ℕ → Memory
memory_view ws = record {
  state = get_or (part 0 NUMBERS ws) STATE 0 % 4294967296;
  height = get_or (part 0 NUMBERS ws) HEIGHT 0 % 65536;
  sn = as_map 0 (map (◌% 65536) (part SN 16 ws));
  mark = as_map 0 (map (◌% 65536) (part MARK 16 ws));
  window = windows (part LOW 16 ws) (part HIGH 16 ws);
  highest_at_restart = get_or (part 0 NUMBERS ws) TOP 0 % 65536;
  table = tickets.entries (part TABLE ROW ws);
  log = logs.entries (part LOG ROW ws);
}

-- ---- a part read
module _ (ws : List ℕ) where
  pub log_part : (memory_view ws).log ≡ logs.entries (part LOG ROW ws)
  unfolding memory_view
  log_part = refl

  pub table_part : (memory_view ws).table ≡ tickets.entries (part TABLE ROW ws)
  unfolding memory_view
  table_part = refl

  pub state_at : get_or ws STATE 0 % 4294967296 ≡ (memory_view ws).state
  unfolding memory_view
  state_at = rw (part_at 0 NUMBERS STATE ws 0 (omega arith))

  pub height_at : get_or ws HEIGHT 0 % 65536 ≡ (memory_view ws).height
  unfolding memory_view
  height_at = rw (part_at 0 NUMBERS HEIGHT ws 0 (omega arith))

  pub top_at : get_or ws TOP 0 % 65536 ≡ (memory_view ws).highest_at_restart
  unfolding memory_view
  top_at = rw (part_at 0 NUMBERS TOP ws 0 (omega arith))

  module _ (s : ℕ) where
    -- one of the 16 words of 16 bits from b on, and past the last
    pub word_at : (b : ℕ) → s < 16 → get_or ws (b + s) 0 % 65536 ≡ as_map 0 (map (◌% 65536) (part b 16 ws)) s
    unfolding as_map
    word_at b h = sym (List·getD-map (◌% 65536) (part b 16 ws) s 0 ∙ ap (◌% 65536) (part_at b 16 s ws 0 h))

    pub no_word : (b : ℕ) → b + 16 ≤ length ws → 16 ≤ s → 0 ≡ as_map 0 (map (◌% 65536) (part b 16 ws)) s
    no_word b fits h = sym (map_beyond 0 (map (◌% 65536) (part b 16 ws)) s (omega (arith, length-map (part b 16 ws) (◌% 65536), part_length b 16 ws fits)))

    pub mark_at : s < 16 → get_or ws (MARK + s) 0 % 65536 ≡ (memory_view ws).mark s
    unfolding memory_view
    mark_at = word_at MARK

    pub window_at : s < 16 → window_bits (record { low = get_or ws (LOW + s) 0; high = get_or ws (HIGH + s) 0 }) ≡ (memory_view ws).window s
    unfolding memory_view windows as_map
    window_at h = rw (part_at LOW 16 s ws 0 h, part_at HIGH 16 s ws 0 h)

    pub no_window : length ws ≡ MEMORY → 16 ≤ s → window_bits (record { low = 0; high = 0 }) ≡ (memory_view ws).window s
    unfolding memory_view windows
    no_window size h = rw (past LOW (omega arith), past HIGH (omega arith))
      where
        past : (b : ℕ) → b + 16 ≤ MEMORY → as_map 0 (part b 16 ws) s ≡ 0
        past b f = map_beyond 0 (part b 16 ws) s (omega (arith, part_length b 16 ws (omega arith)))

-- ---- a row put anew
module _ (ws ys : List ℕ) (size : length ws ≡ MEMORY) (long : length ys ≡ ROW) where
  row_put : (a : ℕ) → TABLE ≤ a → a + ROW ≤ MEMORY → {t l : List ℕ} → part TABLE ROW (put a ROW ws ys) ≡ t → part LOG ROW (put a ROW ws ys) ≡ l
      → memory_view (put a ROW ws ys) ≡ with_log (with_table (memory_view ws) (tickets.entries t)) (logs.entries l)
  unfolding memory_view
  row_put a low room p q =
      let kept = part_before a ROW ws ys (omega arith) long in
      rw (kept 0 NUMBERS (omega arith), kept SN 16 (omega arith), kept MARK 16 (omega arith), kept LOW 16 (omega arith), kept HIGH 16 (omega arith), p, q)

  pub log_put : memory_view (put LOG ROW ws ys) ≡ with_log (memory_view ws) (logs.entries ys)
  unfolding memory_view
  log_put = row_put LOG (omega arith) (omega arith) (part_before LOG ROW ws ys (omega arith) long TABLE ROW (omega arith)) (part_put LOG ROW ws ys (omega arith) long)

  pub table_put : memory_view (put TABLE ROW ws ys) ≡ with_table (memory_view ws) (tickets.entries ys)
  unfolding memory_view
  table_put = row_put TABLE (omega arith) (omega arith) (part_put TABLE ROW ws ys (omega arith) long) (part_behind TABLE ROW ws ys (omega arith) long LOG ROW (omega arith))

  -- as the functions on the rows answer
  pub log_changed : (f : List Logged → List Logged) → logs.entries ys ≡ f (logs.entries (part LOG ROW ws)) → memory_view (put LOG ROW ws ys) ≡ with_log (memory_view ws) (f (memory_view ws).log)
  log_changed f e = log_put ∙ ap (with_log (memory_view ws)) (e ∙ ap f (sym (log_part ws)))

  pub table_changed : (f : List Entry → List Entry) → tickets.entries ys ≡ f (tickets.entries (part TABLE ROW ws)) → memory_view (put TABLE ROW ws ys) ≡ with_table (memory_view ws) (f (memory_view ws).table)
  table_changed f e = table_put ∙ ap (with_table (memory_view ws)) (e ∙ ap f (sym (table_part ws)))
