-- `count`: the words in turn. The invariant: those passed are counted.
use Rattle.std.proofs.Common.{sym, ◌∙◌, arith}
use Rattle.protocol.specs.Job.{machines_of, job_of}
use Rattle.crashsets.specs.Machines.{few, words_end}
use Rattle.crashsets.proofs.Tallies.{none_passed, other_size, one_survived, one_lost, all_passed}
use Rattle.crashsets.proofs.sets.count.Goals as goal
use Rattle.crashsets.proofs.sets.count.Goals.{then-set-f+then-survives, then-set-f+else-survives, else-set-f}

pub overflow_shl-set-end : goal.overflow_shl-set-end
unfolding machines_of
overflow_shl-set-end c = omega (arith, c.byte.ensures, few _ c.requires)

pub loop-set-init : goal.loop-set-init
loop-set-init c = none_passed _ _

pub overflow_add-total : goal.overflow_add-total
unfolding machines_of
overflow_add-total c = let e = words_end _ c.requires _ c.byte.ensures in omega arith

pub overflow_add-survived : goal.overflow_add-survived
unfolding machines_of
overflow_add-survived c = let e = words_end _ c.requires _ c.byte.ensures in omega arith

pub loop-set-preserved : goal.loop-set-preserved
unfolding machines_of job_of
loop-set-preserved c =
    let l = c.loop-set in
    let e = words_end _ c.requires _ c.byte.ensures in
    elim c.if-set-f.branch [
      | then-set-f+then-survives w ↦
          rw (w.total-is, w.survived-is) (one_survived _ _ _ _ _ l.invariant (omega arith) (omega arith) (sym w.survives.ensures ∙ w.if-survives.true))
      | then-set-f+else-survives w ↦
          rw (w.total-is, w.survived-is) (one_lost _ _ _ _ _ l.invariant (omega arith) (omega arith) (sym w.survives.ensures ∙ w.if-survives.false))
      | else-set-f w ↦ rw (w.total-is, w.survived-is) (other_size _ _ _ _ _ l.invariant (omega arith) (omega arith))
    ]

pub returns : goal.returns
unfolding machines_of
returns c =
    let l = c.loop-set in
    let e = words_end _ c.requires _ c.byte.ensures in
    let all = all_passed _ _ _ _ _ l.invariant (omega arith) in
    record { all = all.0; good = all.1 }
