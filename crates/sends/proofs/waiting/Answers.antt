use Rattle.std.proofs.Common.{arith}
use Rattle.sends.specs.Reading.{packets_top}
use Rattle.store.specs.ViewLaws.{wire_at}
use Rattle.sends.proofs.waiting.Goals as goal

pub overflow_cast-result : goal.overflow_cast-result
overflow_cast-result c = omega (arith, packets_top c.args.s.now c.told-s, c.count.ensures)

pub returns : goal.returns
returns c =
    record {
      is = rw (wire_at c.args.s.now) c.count.ensures;
      within = omega (arith, packets_top c.args.s.now c.told-s, c.count.ensures);
    }
