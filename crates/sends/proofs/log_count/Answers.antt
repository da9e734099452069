use Rattle.std.proofs.Common.{arith}
use Rattle.sends.specs.Reading.{log_top}
use Rattle.memory.specs.View.{log_part}
use Rattle.sends.proofs.log_count.Goals as goal

pub overflow_cast-result : goal.overflow_cast-result
overflow_cast-result c = omega (arith, log_top c.args.m.now c.requires, c.count.ensures)

pub returns : goal.returns
returns c =
    record {
      is = rw (log_part c.args.m.now) c.count.ensures;
      within = omega (arith, log_top c.args.m.now c.requires, c.count.ensures);
    }
