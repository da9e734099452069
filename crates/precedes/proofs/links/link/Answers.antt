-- By the laws of `Steps`, one for each way a turn goes.
use Rattle.std.proofs.Common.{arith, sym}
use Rattle.precedes.proofs.Steps.{none_read, all_read, past_bad, one_bad, record_tabled, one_more}
use Rattle.precedes.proofs.links.link.Goals as goal

pub loop-i-init : goal.loop-i-init
loop-i-init c = rw (c.requires.0, c.requires.1, c.requires.2) (none_read c.args.row.now)

pub returns-then-i-eq512 : goal.returns-then-i-eq512
returns-then-i-eq512 c =
    let r = past_bad c.loop-i.invariant c.loop-i-test.true c.if-i-eq512.true in record { place = r.0; from_one = omega arith; links = r.1 }

-- ---- a bad record
pub overflow_cast-result : goal.overflow_cast-result
overflow_cast-result c = omega (arith, c.loop-i.invariant.low)

pub overflow_add-result : goal.overflow_add-result
overflow_add-result c = omega (arith, c.loop-i.invariant.low)

pub returns-then-not-good : goal.returns-then-not-good
returns-then-not-good c =
    let r = one_bad c.loop-i.invariant c.loop-i-test.true c.if-i-eq512.false (sym c.if-not-good.ensures) in record { place = r.0; from_one = omega arith; links = r.1 }

-- ---- a good one
pub put-requires-clause-room : goal.put-requires-clause-room
put-requires-clause-room c = omega (arith, c.loop-i.invariant.low)

pub put-requires-clause-p_value : goal.put-requires-clause-p_value
put-requires-clause-p_value c = record_tabled c.loop-i.invariant c.loop-i-test.true c.if-i-eq512.false (sym c.if-not-good.ensures)

pub loop-i-preserved : goal.loop-i-preserved
loop-i-preserved c =
    let p = c.put.ensures in
    one_more c.loop-i.invariant c.loop-i-test.true c.if-i-eq512.false (sym c.if-not-good.ensures) p.at p.before p.sent

-- ---- the end of the row
pub returns : goal.returns
returns c =
    let r = all_read c.loop-i.invariant c.loop-i-test.false in record { place = r.0; from_one = tt; links = r.1 }
