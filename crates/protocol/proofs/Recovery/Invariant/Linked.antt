-- The world of a state: what the invariant's clauses speak of is what the state holds.
use Rattle.std.specs.Prelude.{◌≡◌, ◌≢◌, ℕ}
use Rattle.protocol.specs.declared.Status.TheVariants.{Down}
use Rattle.protocol.specs.Parts.{Memory, State}
use Rattle.protocol.specs.Setters.{with_table}
use Rattle.protocol.specs.Restart.{restored_table}
use Rattle.protocol.specs.CrashFree.{Run}
use Rattle.protocol.proofs.Recovery.Invariant.World.{World}
use Rattle.protocol.proofs.Recovery.Invariant.Clauses.{Chare}

abbrev pub world : State → Run → (ℕ → ℕ) → (ℕ → Memory) → World
world s x stable mem = record {
  job = s.job;
  run = x;
  stable = stable;
  status = s.status;
  target = s.target;
  mem = mem;
  held = s.held;
  copy = s.copy;
  notes = s.notes;
  wire = s.wire;
}

pub record Linked (s : State) (mem : ℕ → Memory) : Type 0 where
  pub up : (c : ℕ) → s.status (s.job.home c) ≢ Down → mem c ≡ s.live c
  pub down : (c : ℕ) → Chare s.job c → s.status (s.job.home c) ≡ Down → mem c ≡ with_table (s.copy c) (restored_table s (s.job.home c) c)
