use Rattle.std.specs.Prelude.{◌≡◌, List, ℕ, length}
use Rattle.store.specs.View.{view}
use Rattle.transcript.specs.{Reading.read_all, View.reading}
use Rattle.sitting.proofs.play.Given as goal

abbrev pub invariant-loop : goal.invariant-loop
invariant-loop l = (bytes : List ℕ) × (reading l.s l.line l.len ≡ read_all (reading l.initial.s l.initial.line 0) bytes)
