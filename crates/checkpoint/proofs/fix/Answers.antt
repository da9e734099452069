-- `checkpoint::fix` meets its contract: the chares below c are pruned and copied.
use Rattle.std.specs.Prelude.{◌≡◌, ◌+◌, ◌-◌, ◌*◌}
use Rattle.std.proofs.Common.{sym, ◌∙◌, arith}
use Rattle.memory.specs.Places.{MEMORY}
use Rattle.store.specs.{Places.LIVE, View.view, Visits.visit_none}
use Rattle.checkpoint.specs.Fixing.{both, fix_miss, fix_hit, fix_end}
use Rattle.checkpoint.proofs.fix.Goals as goal
use Rattle.checkpoint.proofs.fix.Goals.{then-on, else-on}

pub loop-c-init : goal.loop-c-init
loop-c-init c = (c.told-s, both (view c.args.s.now) (visit_none _ _ _) (visit_none _ _ _))

pub loop-c-preserved : goal.loop-c-preserved
loop-c-preserved c =
    let l = c.loop-c in
    elim c.if-on.branch [
      | then-on w ↦
          let e : (LIVE + l.c * MEMORY + MEMORY) - (LIVE + l.c * MEMORY) ≡ MEMORY = omega arith in
          rw w.s-is (omega (arith, l.invariant.0), fix_hit _ _ l.c l.s l.invariant.1 (sym c.on.ensures ∙ w.if-on.true) l.invariant.0 (omega arith) w.prune.new.m _ (omega arith) (rw e at w.prune.ensures) (rw e at w.copy.ensures))
      | else-on w ↦ rw w.s-is (l.invariant.0, fix_miss _ _ l.c l.s l.invariant.1 (sym c.on.ensures ∙ w.if-on.false))
    ]

pub returns : goal.returns
returns c =
    let l = c.loop-c in
    fix_end _ _ l.c l.s l.invariant.1 (omega arith)
