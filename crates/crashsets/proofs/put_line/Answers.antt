-- `put_line`: the three numbers, one behind the other.
use Rattle.std.proofs.Common.{arith}
use Rattle.crashsets.specs.Digits.{field_fits, first_fits, line_put}
use Rattle.crashsets.proofs.put_line.Goals as goal

pub put_number-second-requires : goal.put_number-second-requires
put_number-second-requires c =
    (omega (arith, c.requires.0, c.put_number-first.auto.out, c.put_number-first.ensures.end, first_fits c.args.f 32 c.requires.1), c.requires.2)

pub put_number-requires : goal.put_number-requires
put_number-requires c =
    let e = c.put_number-first in
    let f = c.put_number-second in
    (omega (arith, c.requires.0, e.auto.out, e.ensures.end, f.auto.out, f.ensures.end, first_fits c.args.f 32 c.requires.1, field_fits c.args.total 32 c.requires.2), c.requires.3)

pub returns : goal.returns
returns c =
    record {
      end = (let a = c.args in
          line_put a.out.now a.at a.f a.total a.survived c.requires.0 c.requires.1 c.requires.2 _ _ _ _ _ _
          c.put_number-first.ensures.end c.put_number-first.ensures.bytes c.put_number-second.ensures.end c.put_number-second.ensures.bytes c.put_number.ensures.end c.put_number.ensures.bytes).0;
      bytes = (let a = c.args in
          line_put a.out.now a.at a.f a.total a.survived c.requires.0 c.requires.1 c.requires.2 _ _ _ _ _ _
          c.put_number-first.ensures.end c.put_number-first.ensures.bytes c.put_number-second.ensures.end c.put_number-second.ensures.bytes c.put_number.ensures.end c.put_number.ensures.bytes).1;
    }
