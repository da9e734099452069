-- A store of zeros is the state before any job. Its parts have their places as numerals, so that they compute.
use Rattle.std.specs.Prelude.{◌≡◌, false, [], ℕ, ◌+◌, ◌*◌, ◌≤◌, ltb, eqb, replicate}
use Rattle.std.proofs.Common.{arith, ltb-true}
use Rattle.lists.specs.Tests.{either}
use Rattle.arrays.specs.ArrayMap.{as_map}
use Rattle.protocol.specs.Parts.{blank, start, no_job}
use Rattle.words.specs.{Rows.row, Slots.slots, Zeros.{zeros, zero_at, part_zeros}}
use Rattle.head.specs.{Cells.cell_none, Head.{job_of, lost_of, as_status, status_of, held_of, target_of}}
use Rattle.notelist.specs.Notes.{notes}
use Rattle.packets.specs.Words.{packets}
use Rattle.memory.specs.{Places.MEMORY, View.memory_view, Blank.{memory_zeros, memory_none}}
use Rattle.store.specs.{Places.{STORE, LIVE, COPY, NOTES, NOTELIST}, View.view}

memories_zeros : (b : ℕ) → b + 13 * MEMORY ≤ STORE → (c : ℕ) → memory_view (slots b MEMORY 13 (zeros STORE) c) ≡ blank
unfolding slots
memories_zeros b g c = either (ltb c 13)
    (λ e. let k = ltb-true c 13 e in rw (e, part_zeros STORE (b + c * MEMORY) MEMORY (omega arith)) memory_zeros)
    (λ e. rw e memory_none)

notes_zeros : (p : ℕ) → notes (slots NOTES NOTELIST 7 (zeros STORE) p) ≡ []
unfolding slots notes row
notes_zeros p = either (ltb p 7)
    (λ e. let k = ltb-true p 7 e in rw (e, part_zeros STORE (NOTES + p * NOTELIST) NOTELIST (omega arith)))
    (λ e. rw e)

pub zeros_start : view (replicate STORE 0) ≡ start
unfolding view start no_job job_of lost_of status_of as_status held_of target_of as_map packets row
zeros_start = λ i. record {
  job = record {
    set = false;
    machines = 0;
    chares = 0;
    buddy = λ k. cell_none 6 7 k i;
    home = λ k. cell_none 6 13 k i;
    first = λ k. cell_none 12 13 k i;
    second = λ k. cell_none 12 13 k i;
  };
  lost = false;
  status = λ p. as_status (zero_at 7 p i);
  target = λ c. zero_at 13 c i;
  live = λ c. memories_zeros LIVE (omega arith) c i;
  held = λ p. eqb (zero_at 7 p i) 1;
  copy = λ c. memories_zeros COPY (omega arith) c i;
  notes = λ p. notes_zeros p i;
  wire = [];
}
