-- `settle::drop_targets` meets its contract: the targets of the chares below c are dropped.
use Rattle.std.proofs.Common.{sym, ap, ◌∙◌, arith, length-set}
use Rattle.protocol.specs.Setters.{with_status}
use Rattle.store.specs.{View.view, Visits.visit_none}
use Rattle.settle.specs.Targets.{drop_miss, drop_hit, drop_end}
use Rattle.settle.proofs.drop_targets.Goals as goal
use Rattle.settle.proofs.drop_targets.Goals.{then-on, else-on}

pub loop-c-init : goal.loop-c-init
loop-c-init c = (c.told-s, ap (with_status (view c.args.s.now) (view c.args.s.now).status) (visit_none _ _ _))

pub loop-c-preserved : goal.loop-c-preserved
loop-c-preserved c =
    let l = c.loop-c in
    elim c.if-on.branch [
      | then-on w ↦ rw w.s-is (simp length-set l.invariant.0, drop_hit _ _ l.c l.s l.invariant.1 (sym c.on.ensures ∙ w.if-on.true) l.invariant.0 (omega arith))
      | else-on w ↦ rw w.s-is (l.invariant.0, drop_miss _ _ l.c l.s l.invariant.1 (sym c.on.ensures ∙ w.if-on.false))
    ]

pub returns : goal.returns
returns c =
    let l = c.loop-c in
    drop_end _ _ l.c l.s l.invariant.1 c.told-s (omega arith)
