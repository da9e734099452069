-- `checkpoint::limits` meets its contract: the chares below c have their limit.
use Rattle.std.specs.Prelude.{◌≡◌, refl, ◌+◌, ◌-◌, ◌*◌}
use Rattle.std.proofs.Common.{sym, ◌∙◌, arith, length-set}
use Rattle.arrays.specs.ArrayMap.{map_blank}
use Rattle.memory.specs.Places.{MEMORY}
use Rattle.store.specs.{Places.LIVE, View.view, Visits.{visit_none, visit_miss}}
use Rattle.checkpoint.specs.Limits.{limits_hit, limits_end}
use Rattle.checkpoint.proofs.limits.Goals as goal
use Rattle.checkpoint.proofs.limits.Goals.{then-on, else-on}

pub loop-c-init : goal.loop-c-init
loop-c-init c = (refl, map_blank 0 13 ∙ visit_none _ _ _)

pub loop-c-preserved : goal.loop-c-preserved
unfolding view
loop-c-preserved c =
    let l = c.loop-c in
    elim c.if-on.branch [
      | then-on w ↦
          let e : (LIVE + l.c * MEMORY + MEMORY) - (LIVE + l.c * MEMORY) ≡ MEMORY = omega arith in
          rw w.r-is (simp length-set l.invariant.0, limits_hit _ _ l.c l.r l.invariant.1 (sym c.on.ensures ∙ w.if-on.true) (omega arith) l.invariant.0 w.height.result (rw e at w.height.ensures))
      | else-on w ↦ rw w.r-is (l.invariant.0, l.invariant.1 ∙ visit_miss _ _ _ l.c (sym c.on.ensures ∙ w.if-on.false))
    ]

pub returns : goal.returns
returns c =
    let l = c.loop-c in
    limits_end _ _ l.c l.r l.invariant.1 (omega arith)
