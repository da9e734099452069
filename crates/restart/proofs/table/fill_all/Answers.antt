-- `fill_all` goes through the copied logs. The loop: those from q on still fill.
use Rattle.std.specs.Prelude.{refl}
use Rattle.std.proofs.Common.{sym, ◌∙◌, arith}
use Rattle.lists.specs.Lists.{keep, gather}
use Rattle.protocol.specs.{Parts.every_chare, Restart.{fill_all, local_log}}
use Rattle.restart.specs.{Fills.{filling, filling_append}, Ranges.{range, range_next, range_past}, Stored.copy_log, OnMachine.home_at}
use Rattle.restart.proofs.table.fill_all.Goals as goal
use Rattle.restart.proofs.table.fill_all.Goals.{then-on, else-on}

pub loop-q-init : goal.loop-q-init
unfolding every_chare range
loop-q-init c = (refl, λ h. h)

pub loop-q-preserved : goal.loop-q-preserved
unfolding gather local_log
loop-q-preserved c =
    let a = c.args in
    let l = c.loop-q in
    let step = range_next 13 l.q (omega arith) in
    elim c.if-on.branch [
      | then-on w ↦
          let here = home_at a.s.now a.p l.q _ _ c.on.ensures w.if-on.true in
          rw w.row-is (
            l.invariant.0 ∙ rw (step, here, copy_log a.s.now l.q (omega arith), filling_append, w.fill_from.ensures.row),
            λ h. w.fill_from.ensures.words (l.invariant.1 h),
          )
      | else-on w ↦
          let there = home_at a.s.now a.p l.q _ _ c.on.ensures w.if-on.false in rw w.row-is (l.invariant.0 ∙ rw (step, there), l.invariant.1)
    ]

pub returns : goal.returns
unfolding gather filling keep fill_all
returns c =
    let l = c.loop-q in record { row = sym (l.invariant.0 ∙ rw (range_past 13 l.q (omega arith))); words = l.invariant.1 }
