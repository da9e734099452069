-- `tables` goes through the chares. The loop: the tables below c are built.
use Rattle.std.proofs.Common.{arith, length-set}
use Rattle.std.proofs.lemmas.Result.{err_from_is_err_and}
use Rattle.store.specs.View.{view}
use Rattle.restart.specs.{OnMachine.home_at, Homes.{going_start, going_end, going_skip, going_stop, going_more}}
use Rattle.restart.proofs.back.tables.Goals as goal
use Rattle.restart.proofs.back.tables.Goals.{then-on+in_ok-build, else-on}

pub loop-c-init : goal.loop-c-init
loop-c-init c = let a = c.args in (c.told-rows, going_start (view a.s.now) a.p a.rows.now)

pub returns-in_err-build : goal.returns-in_err-build
returns-in_err-build c =
    let a = c.args in
    let l = c.loop-c in
    let r = err_from_is_err_and c.from_residual.result c.from_residual.ensures.1 in
    let here = home_at a.s.now a.p l.c _ _ c.on.ensures c.if-on.true in
    rw r.1 (going_stop (view a.s.now) a.p l.c l.rows l.invariant.1 (omega arith) here _ c.in_err-build.ensures.row _)

pub loop-c-preserved : goal.loop-c-preserved
loop-c-preserved c =
    let a = c.args in
    let l = c.loop-c in
    elim c.if-on.branch [
      | then-on+in_ok-build w ↦ (
          let here = home_at a.s.now a.p l.c _ _ c.on.ensures w.if-on.true in
          rw w.rows-is (simp length-set l.invariant.0, going_more (view a.s.now) a.p l.c l.rows l.invariant.1 (omega arith) here _ w.in_ok-build.ensures.row l.invariant.0))
      | else-on w ↦ (
          let there = home_at a.s.now a.p l.c _ _ c.on.ensures w.if-on.false in
          rw w.rows-is (l.invariant.0, going_skip (view a.s.now) a.p l.c l.rows l.invariant.1 (omega arith) there))
    ]

pub returns : goal.returns
returns c =
    let a = c.args in
    let l = c.loop-c in
    going_end (view a.s.now) a.p l.c l.rows l.invariant.1 (omega arith)
