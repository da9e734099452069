use Rattle.std.specs.Prelude.{◌≡◌, ◌-◌, ◌≤◌, length}
use Rattle.survivors.proofs.read_line.Given as goal

abbrev pub invariant-loop-got : goal.invariant-loop-got
invariant-loop-got l = (length l.input ≡ length l.initial.input) × (l.n ≤ length l.initial.input)

abbrev pub decreases-loop-got : goal.decreases-loop-got
decreases-loop-got l = length l.initial.input - l.n
