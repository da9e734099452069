-- `survives`: the machines in turn. The invariant: those passed are not together with their buddies.
use Rattle.std.specs.Prelude.{◌≡◌, ◌+◌, ◌-◌}
use Rattle.std.proofs.Common.{◌∙◌, arith}
use Rattle.arrays.specs.Loops.{each_hit, each_miss, each_end}
use Rattle.frames.specs.Decode.{decoded}
use Rattle.protocol.specs.Job.{machines_of}
use Rattle.crashsets.proofs.Together.{alone, survives_alone}
use Rattle.crashsets.proofs.sets.survives.Goals as goal

pub together-requires : goal.together-requires
unfolding machines_of
together-requires c = record { line_value = c.requires; le_p = (c.loop-p.invariant.0, omega arith) }

pub loop-p-init : goal.loop-p-init
loop-p-init c =
    let m = machines_of (decoded c.args.line.now) in
    let e : m + 1 - 1 ≡ m = omega arith in
    (omega arith, survives_alone _ c.requires _ ∙ rw e)

pub returns-then-together : goal.returns-then-together
unfolding machines_of
returns-then-together c =
    let l = c.loop-p in
    let b = decoded c.args.line.now in
    each_miss (alone b c.args.set) (machines_of b + 1) l.p _ l.invariant.1 (omega arith) (rw (← c.together.ensures, c.if-together.true))

pub loop-p-preserved : goal.loop-p-preserved
unfolding machines_of
loop-p-preserved c =
    let l = c.loop-p in
    let b = decoded c.args.line.now in
    (omega arith, each_hit (alone b c.args.set) (machines_of b + 1) l.p _ l.invariant.1 (omega arith) (rw (← c.together.ensures, c.if-together.false)))

-- the last machine
pub returns-else-together : goal.returns-else-together
unfolding machines_of
returns-else-together c =
    let l = c.loop-p in
    let b = decoded c.args.line.now in
    each_end (alone b c.args.set) (machines_of b + 1) (l.p + 1) _
    (each_hit (alone b c.args.set) (machines_of b + 1) l.p _ l.invariant.1 (omega arith) (rw (← c.together.ensures, c.if-together.false)))
    (omega arith)

pub returns : goal.returns
unfolding machines_of
returns c =
    let l = c.loop-p in
    let b = decoded c.args.line.now in
    each_end (alone b c.args.set) (machines_of b + 1) l.p _ l.invariant.1 (omega arith)
