-- `crash::lose_live` meets its contract: the chares below c are done.
use Rattle.std.specs.Prelude.{◌≡◌, ◌+◌, ◌-◌, ◌*◌}
use Rattle.std.proofs.Common.{sym, ap, ◌∙◌, arith}
use Rattle.memory.specs.Places.{MEMORY}
use Rattle.protocol.specs.Setters.{with_live}
use Rattle.store.specs.{Places.{LIVE}, View.view, Visits.visit_none, ViewLaws.live_length}
use Rattle.crash.specs.Memories.{live_miss, live_hit, live_end}
use Rattle.crash.proofs.lose_live.Goals as goal
use Rattle.crash.proofs.lose_live.Goals.{then-on, else-on}

pub loop-c-init : goal.loop-c-init
loop-c-init c = (c.told-s, ap (with_live (view c.args.s.now)) (visit_none _ _ _))

pub loop-c-preserved : goal.loop-c-preserved
loop-c-preserved c =
    let l = c.loop-c in
    elim c.if-on.branch [
      | then-on w ↦
          let e : (LIVE + l.c * MEMORY + MEMORY) - (LIVE + l.c * MEMORY) ≡ MEMORY = omega arith in
          let z = w.fill.ensures.after (λ y q. q) in
          rw (w.s-is, e) (live_length l.s l.invariant.0 l.c (omega arith) w.fill.new.self (omega (arith, w.fill.ensures.len)), live_hit _ _ l.c l.s l.invariant.1 (sym c.on.ensures ∙ w.if-on.true) l.invariant.0 (omega arith) w.fill.new.self (omega (arith, w.fill.ensures.len)) (rw e at z))
      | else-on w ↦ rw w.s-is (l.invariant.0, live_miss _ _ l.c l.s l.invariant.1 (sym c.on.ensures ∙ w.if-on.false))
    ]

pub returns : goal.returns
returns c =
    let l = c.loop-c in
    live_end _ _ l.c l.s l.invariant.1 (omega arith)
