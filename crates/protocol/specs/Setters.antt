-- A memory or a state with one part changed.
use Rattle.std.specs.Prelude.{Bool, List, ℕ}
use Rattle.lists.specs.Map.{upd}
use Rattle.protocol.specs.declared.Logged.{Logged}
use Rattle.protocol.specs.declared.Entry.{Entry}
use Rattle.protocol.specs.declared.Note.{Note}
use Rattle.protocol.specs.declared.Packet.{Packet}
use Rattle.protocol.specs.declared.Status.{Status}
use Rattle.protocol.specs.Parts.{Memory, State}

module _ (m : Memory) where
  abbrev pub with_table : List Entry → Memory
  with_table v = record { state = m.state; height = m.height; sn = m.sn; mark = m.mark; window = m.window; highest_at_restart = m.highest_at_restart; table = v; log = m.log }

  abbrev pub with_log : List Logged → Memory
  with_log v = record { state = m.state; height = m.height; sn = m.sn; mark = m.mark; window = m.window; highest_at_restart = m.highest_at_restart; table = m.table; log = v }

  abbrev pub with_sn : (ℕ → ℕ) → Memory
  with_sn v = record { state = m.state; height = m.height; sn = v; mark = m.mark; window = m.window; highest_at_restart = m.highest_at_restart; table = m.table; log = m.log }

  abbrev pub with_highest_at_restart : ℕ → Memory
  with_highest_at_restart v = record { state = m.state; height = m.height; sn = m.sn; mark = m.mark; window = m.window; highest_at_restart = v; table = m.table; log = m.log }

module _ (s : State) where
  abbrev pub with_lost : Bool → State
  with_lost v = record { job = s.job; lost = v; status = s.status; target = s.target; live = s.live; held = s.held; copy = s.copy; notes = s.notes; wire = s.wire }

  abbrev pub with_status : (ℕ → Status) → (ℕ → ℕ) → State
  with_status v w = record { job = s.job; lost = s.lost; status = v; target = w; live = s.live; held = s.held; copy = s.copy; notes = s.notes; wire = s.wire }

  abbrev pub with_live : (ℕ → Memory) → State
  with_live v = record { job = s.job; lost = s.lost; status = s.status; target = s.target; live = v; held = s.held; copy = s.copy; notes = s.notes; wire = s.wire }

  abbrev pub with_copies : (ℕ → Bool) → (ℕ → Memory) → (ℕ → List Note) → State
  with_copies h c n = record { job = s.job; lost = s.lost; status = s.status; target = s.target; live = s.live; held = h; copy = c; notes = n; wire = s.wire }

  abbrev pub with_notes : (ℕ → List Note) → State
  with_notes v = record { job = s.job; lost = s.lost; status = s.status; target = s.target; live = s.live; held = s.held; copy = s.copy; notes = v; wire = s.wire }

  abbrev pub with_wire : List Packet → State
  with_wire v = record { job = s.job; lost = s.lost; status = s.status; target = s.target; live = s.live; held = s.held; copy = s.copy; notes = s.notes; wire = v }

  -- the memory of chare c becomes v
  abbrev pub with_memory : ℕ → Memory → State
  with_memory c v = with_live (upd c v s.live)
