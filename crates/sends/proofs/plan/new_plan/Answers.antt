use Rattle.std.proofs.Common.{le-leb, arith}
use Rattle.std.proofs.lemmas.Bool.{lt-leb}
use Rattle.sends.specs.{Plan.new_plan, Reading.table_top}
use Rattle.memory.specs.{Places.{TABLE, ROW}, View.table_part}
use Rattle.words.specs.Part.{part}
use Rattle.tickets.specs.Table.{entries}
use Rattle.protocol.specs.Tickets.{next_tn}
use Rattle.sends.proofs.plan.new_plan.Goals as goal

pub returns-then-tn-gt60000 : goal.returns-then-tn-gt60000
returns-then-tn-gt60000 c =
    let a = c.args in
    unfold new_plan in
    rw (table_part a.y.now, ← c.top-top.ensures, lt-leb (next_tn a.base c.top-top.result (entries (part TABLE ROW a.y.now))) 60000 (omega (arith, c.next_tn-tn.ensures, c.if-tn-gt60000.true))) c.idle.ensures

pub overflow_add-result : goal.overflow_add-result
overflow_add-result c = omega (arith, table_top c.args.y.now c.requires.y_len, c.count-count.ensures)

pub returns : goal.returns
returns c =
    let a = c.args in
    unfold new_plan in
    rw (table_part a.y.now, ← c.top-top.ensures, ← c.seen-seen.ensures, le-leb (next_tn a.base c.top-top.result (entries (part TABLE ROW a.y.now))) 60000 (omega (arith, c.next_tn-tn.ensures, c.if-tn-gt60000.false)), ← c.next_tn-tn.ensures, ← c.count-count.ensures, ← c.admitted.ensures)
