-- `checkpoint::clean` meets its contract: the logs below c are cleaned.
use Rattle.std.specs.Prelude.{◌≡◌, ◌+◌, ◌-◌, ◌*◌}
use Rattle.std.proofs.Common.{sym, ap, ◌∙◌, arith}
use Rattle.memory.specs.Places.{MEMORY}
use Rattle.protocol.specs.Setters.{with_live}
use Rattle.store.specs.{Places.LIVE, View.view, Visits.visit_none, ViewLaws.live_length}
use Rattle.checkpoint.specs.Cleaning.{clean_miss, clean_hit, clean_end}
use Rattle.checkpoint.proofs.clean.Goals as goal
use Rattle.checkpoint.proofs.clean.Goals.{then-is_up, else-is_up}

pub loop-c-init : goal.loop-c-init
loop-c-init c = (c.told-s, ap (with_live (view c.args.s.now)) (visit_none _ _ _))

pub loop-c-preserved : goal.loop-c-preserved
loop-c-preserved c =
    let l = c.loop-c in
    elim c.if-is_up.branch [
      | then-is_up w ↦
          let e : (LIVE + l.c * MEMORY + MEMORY) - (LIVE + l.c * MEMORY) ≡ MEMORY = omega arith in
          rw (w.s-is, e) (live_length l.s l.invariant.0 l.c (omega arith) w.clean_log.new.m (omega arith), clean_hit _ _ l.c l.s l.invariant.1 c.home-h.result c.home-h.ensures.is (sym c.is_up.ensures ∙ w.if-is_up.true) l.invariant.0 (omega arith) w.clean_log.new.m (omega arith) (rw e at w.clean_log.ensures))
      | else-is_up w ↦ rw w.s-is (l.invariant.0, clean_miss _ _ l.c l.s l.invariant.1 c.home-h.result c.home-h.ensures.is (sym c.is_up.ensures ∙ w.if-is_up.false))
    ]

pub returns : goal.returns
returns c =
    let l = c.loop-c in
    clean_end _ _ l.c l.s l.invariant.1 (omega arith)
