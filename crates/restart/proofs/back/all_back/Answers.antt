-- `all_back` goes through the chares. The loop: those below c are back.
use Rattle.std.proofs.Common.{◌∙◌, arith}
use Rattle.store.specs.{View.view}
use Rattle.restart.specs.{OnMachine.{home_at, on_last}, Homes.{table_in, backs_start, backs_more, backs_skip, backs_all}}
use Rattle.restart.proofs.back.all_back.Goals as goal
use Rattle.restart.proofs.back.all_back.Goals.{then-on, else-on}

pub loop-c-init : goal.loop-c-init
loop-c-init c = let a = c.args in backs_start (view a.s.now) a.p a.rows.now

pub loop-c-preserved : goal.loop-c-preserved
unfolding table_in
loop-c-preserved c =
    let a = c.args in
    let l = c.loop-c in
    elim c.if-on.branch [
      | then-on w ↦ (
          let here = home_at l.s a.p l.c _ _ c.on.ensures w.if-on.true in
          rw w.s-is (backs_more (view a.s.now) a.p a.rows.now l.s l.c l.invariant here _ w.come_back.ensures))
      | else-on w ↦ rw w.s-is (backs_skip (view a.s.now) a.p a.rows.now l.s l.c l.invariant (home_at l.s a.p l.c _ _ c.on.ensures w.if-on.false))
    ]

pub returns : goal.returns
returns c =
    let a = c.args in
    let l = c.loop-c in
    l.invariant ∙ backs_all (view a.s.now) a.p a.rows.now l.c (omega arith) (on_last a.s.now (omega arith) a.p c.requires)
