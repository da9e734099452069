use Rattle.std.specs.Prelude.{◌≡◌, ◌-◌, ◌≤◌, length, take}
use Rattle.transcript.specs.{Reading.read_all, View.reading}
use Rattle.sitting.proofs.answer.Given as goal

abbrev pub invariant-loop-at : goal.invariant-loop-at
invariant-loop-at l = (l.at ≤ length l.piece) × (length l.out ≡ length l.initial.out) × (reading l.s l.line l.len ≡ read_all (reading l.initial.s l.initial.line l.n) (take l.at l.piece))

abbrev pub decreases-loop-at : goal.decreases-loop-at
decreases-loop-at l = length l.piece - l.at
