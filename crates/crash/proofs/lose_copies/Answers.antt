-- `crash::lose_copies` meets its contract: the chares below c are done.
use Rattle.std.specs.Prelude.{◌≡◌, ◌+◌, ◌-◌, ◌*◌}
use Rattle.std.proofs.Common.{ap, ◌∙◌, arith}
use Rattle.memory.specs.Places.{MEMORY}
use Rattle.words.specs.Part.{put_length}
use Rattle.store.specs.{Places.{COPY, copy_from}, View.view, Visits.visit_none}
use Rattle.crash.specs.Memories.{with_copy_map, copy_miss, copy_hit, copy_end}
use Rattle.crash.proofs.lose_copies.Goals as goal
use Rattle.crash.proofs.lose_copies.Goals.{then-buddy-p, else-buddy-p}

pub loop-c-init : goal.loop-c-init
loop-c-init c = (c.told-s, ap (with_copy_map (view c.args.s.now)) (visit_none _ _ _))

pub loop-c-preserved : goal.loop-c-preserved
loop-c-preserved c =
    let l = c.loop-c in
    elim c.if-buddy-p.branch [
      | then-buddy-p w ↦
          let e : (COPY + l.c * MEMORY + MEMORY) - (COPY + l.c * MEMORY) ≡ MEMORY = omega arith in
          let z = w.fill.ensures.after (λ y q. q) in
          rw (w.s-is, e) (put_length (copy_from l.c) MEMORY l.s w.fill.new.self (omega (arith, l.invariant.0)) (omega (arith, w.fill.ensures.len)) ∙ l.invariant.0, copy_hit _ _ l.c l.s l.invariant.1 _ _ c.home-h.ensures.is c.buddy.ensures.is w.if-buddy-p.true l.invariant.0 (omega arith) w.fill.new.self (omega (arith, w.fill.ensures.len)) (rw e at z))
      | else-buddy-p w ↦ rw w.s-is (l.invariant.0, copy_miss _ _ l.c l.s l.invariant.1 _ _ c.home-h.ensures.is c.buddy.ensures.is w.if-buddy-p.false)
    ]

pub returns : goal.returns
returns c =
    let l = c.loop-c in
    copy_end _ _ l.c l.s l.invariant.1 (omega arith)
