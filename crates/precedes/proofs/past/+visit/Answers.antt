-- The record is marked, then its two links are followed.
use Rattle.std.proofs.Common.{◌-◌, arith}
use Rattle.precedes.specs.Visits.{whole_second, visited_both}
use Rattle.precedes.proofs.past.+visit.Goals as goal

pub visit-requires-2 : goal.visit-requires-2
visit-requires-2 t c =
    let x = c.args in let r = c.requires in
    let low = r.falls.1 (x.place - 1) in (
      omega (arith, low, c.decreases),
      (omega (arith, low), (r.falls, whole_second _ _ x.place c.if-place-eq0.false x.seen.now r.whole (omega arith) c.visit.ensures _ low)),
    )

pub returns : goal.returns
returns t c =
    let x = c.args in
    visited_both _ _ x.place c.if-place-eq0.false x.seen.now c.requires.whole (omega arith) c.visit.ensures c.visit-2.ensures
