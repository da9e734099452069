-- `crash::lose_notes` meets its contract: the machines below q are done.
use Rattle.std.specs.Prelude.{◌≡◌, ◌+◌, ◌-◌, ◌*◌}
use Rattle.std.proofs.Common.{arith}
use Rattle.store.specs.{Visits.{visit_none, held_length}, Places.{NOTES, NOTELIST}, View.view}
use Rattle.crash.specs.Keeping.{both, kept_miss, kept_hit, kept_end}
use Rattle.crash.proofs.lose_notes.Goals as goal
use Rattle.crash.proofs.lose_notes.Goals.{then-buddy-p, else-buddy-p}

pub loop-q-init : goal.loop-q-init
loop-q-init c = (c.told-s, both (view c.args.s.now) (visit_none _ _ _) (visit_none _ _ _))

pub loop-q-preserved : goal.loop-q-preserved
loop-q-preserved c =
    let l = c.loop-q in
    elim c.if-buddy-p.branch [
      | then-buddy-p w ↦
          let e : (NOTES + l.q * NOTELIST + NOTELIST) - (NOTES + l.q * NOTELIST) ≡ NOTELIST = omega arith in
          rw (w.s-is, e) (held_length l.s l.invariant.0 l.q (omega arith) _ w.empty.new.ws (omega arith), kept_hit _ _ l.q l.s l.invariant.1 _ c.buddy.ensures.is w.if-buddy-p.true l.invariant.0 (omega arith) w.empty.new.ws (omega arith) w.empty.ensures.items)
      | else-buddy-p w ↦ rw w.s-is (l.invariant.0, kept_miss _ _ l.q l.s l.invariant.1 _ c.buddy.ensures.is w.if-buddy-p.false)
    ]

pub returns : goal.returns
returns c =
    let l = c.loop-q in
    kept_end _ _ l.q l.s l.invariant.1 c.told-s (omega arith)
