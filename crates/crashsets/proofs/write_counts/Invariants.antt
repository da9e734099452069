use Rattle.std.specs.Prelude.{◌≤◌}
use Rattle.protocol.specs.Job.{job_of}
use Rattle.frames.specs.Decode.{decoded}
use Rattle.crashsets.proofs.Digits.{SoFar}
use Rattle.crashsets.proofs.write_counts.Given as goal

abbrev pub invariant-loop-f : goal.invariant-loop-f
invariant-loop-f l = (1 ≤ l.f) × SoFar (job_of (decoded l.line)) l.initial.out l.f l.written l.out
