use Rattle.std.specs.Prelude.{refl, ◌%◌}
use Rattle.std.proofs.Common.{rules}
use Rattle.std.proofs.lemmas.Bool.{not-true, not-false}
use Rattle.sends.specs.Worked.{not_ready, too_high, mark_too_high, worked}
use Rattle.sends.proofs.entry.work_entry.Goals as goal
use Rattle.sends.proofs.entry.work_entry.Goals.{then-not-e-via-then-not-e, then-not-e-via-else-not-e+then-not-e-2}

pub returns-then-not-e : goal.returns-then-not-e
returns-then-not-e c =
    not_ready c.args.x c.args.e (elim c.then-not-e.branch [
      | then-not-e-via-then-not-e w ↦ rw (not-true c.args.e.received w.if-not-e.true)
      | then-not-e-via-else-not-e+then-not-e-2 w ↦ rw (not-false c.args.e.received w.if-not-e.false, not-true c.args.e.noted w.if-not-e-2.true)
    ])

pub returns-then-height-ge60000 : goal.returns-then-height-ge60000
returns-then-height-ge60000 c =
    let a = c.args in
    too_high a.x a.e (rw (not-false a.e.received c.if-not-e.false, not-false a.e.noted c.if-not-e-2.false)) (a.x.height % 65536) refl c.if-height-ge60000.true

pub returns-then-mark-gt60000 : goal.returns-then-mark-gt60000
returns-then-mark-gt60000 c =
    let a = c.args in
    mark_too_high a.x a.e (rw (not-false a.e.received c.if-not-e.false, not-false a.e.noted c.if-not-e-2.false)) (a.x.height % 65536) refl c.if-height-ge60000.false
    (a.x.mark % 65536) refl c.take_in-mark.result c.take_in-mark.ensures c.if-mark-gt60000.true

pub returns : goal.returns
returns c =
    let a = c.args in
    worked a.x a.e (rw (not-false a.e.received c.if-not-e.false, not-false a.e.noted c.if-not-e-2.false)) (a.x.height % 65536) refl c.if-height-ge60000.false
    (a.x.mark % 65536) refl c.take_in-mark.result c.take_in-mark.ensures (a.x.state % 4294967296) c.work.result refl c.work.ensures (search rules) c.if-mark-gt60000.false
