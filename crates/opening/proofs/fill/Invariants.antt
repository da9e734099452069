use Rattle.std.specs.Prelude.{ℕ}
use Rattle.head.specs.Cells.{Filled}
use Rattle.opening.specs.Words.{Gives}
use Rattle.opening.proofs.fill.Given as goal

abbrev pub invariant-loop-k : goal.invariant-loop-k
invariant-loop-k g l = (f : ℕ → ℕ) → Gives f (goal.F-post g l.number) → Filled f l.part l.k
