-- A memory whose words are all 0, and one that is not there, are blank.
use Rattle.std.specs.Prelude.{◌≡◌, false, List, [], ℕ}
use Rattle.std.proofs.Common.{ap, ◌∙◌}
use Rattle.arrays.specs.ArrayMap.{as_map, map_blank}
use Rattle.protocol.specs.Parts.{blank}
use Rattle.window.specs.{Bits.window_bits, BitLaws.no_bits}
use Rattle.words.specs.{Rows.row, Zeros.zeros}
use Rattle.memory.specs.{Places.MEMORY, View.{windows, memory_view}}
use Rattle.tickets.specs.Table as tickets
use Rattle.logs.specs.Log as logs

no_windows : (l : List ℕ) → as_map 0 l ≡ (λ s. 0) → windows l l ≡ (λ s i. false)
unfolding windows window_bits
no_windows l e = (λ i s. window_bits (record { low = e i s; high = e i s })) ∙ ap (λ b (s : ℕ). b) no_bits

pub memory_zeros : memory_view (zeros MEMORY) ≡ blank
unfolding memory_view blank tickets.entries logs.entries row
memory_zeros = λ i. record {
  state = 0;
  height = 0;
  sn = map_blank 0 16 i;
  mark = map_blank 0 16 i;
  window = no_windows (zeros 16) (map_blank 0 16) i;
  highest_at_restart = 0;
  table = [];
  log = [];
}

pub memory_none : memory_view [] ≡ blank
unfolding memory_view blank tickets.entries logs.entries row as_map
memory_none = ap (λ w. record { state = 0; height = 0; sn = λ _. 0; mark = λ _. 0; window = w; highest_at_restart = 0; table = []; log = [] }) (no_windows [] (λ i s. 0))
