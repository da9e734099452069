use Rattle.protocol.specs.Job.{job_of}
use Rattle.frames.specs.Decode.{decoded}
use Rattle.crashsets.proofs.Tallies.{Passed}
use Rattle.crashsets.proofs.sets.count.Given as goal

abbrev pub invariant-loop-set : goal.invariant-loop-set
invariant-loop-set l = Passed (job_of (decoded l.line)) l.f l.set l.total l.survived
