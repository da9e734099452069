use Rattle.std.specs.Prelude.{◌≡◌, ◌+◌, ◌-◌, ◌≤◌}
use Rattle.arrays.specs.Loops.{each}
use Rattle.protocol.specs.Job.{machines_of, job_of}
use Rattle.frames.specs.Decode.{decoded}
use Rattle.crashsets.specs.{CrashSets.survives, Words.set_of}
use Rattle.crashsets.proofs.Together.{alone}
use Rattle.crashsets.proofs.sets.survives.Given as goal

abbrev pub invariant-loop-p : goal.invariant-loop-p
invariant-loop-p l = let b = decoded l.line in
    let m = machines_of b in
    (1 ≤ l.p) × (survives (job_of b) (set_of m l.set) ≡ each (alone b l.set) (m + 1 - l.p) l.p)
