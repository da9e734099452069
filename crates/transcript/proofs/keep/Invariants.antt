use Rattle.std.specs.Prelude.{◌≡◌, length}
use Rattle.std.proofs.Math.Seq.{paste}
use Rattle.transcript.proofs.keep.Given as goal

abbrev pub invariant-loop-i : goal.invariant-loop-i
invariant-loop-i l = (length l.line ≡ length l.initial.line) × (l.line ≡ paste l.initial.line l.n l.piece l.i)
