-- `together`: the machine's bit, and its buddy's.
use Rattle.std.proofs.Common.{arith}
use Rattle.crashsets.specs.Machines.{few, buddy_low, buddy_high}
use Rattle.crashsets.proofs.sets.together.Goals as goal

pub stands-requires : goal.stands-requires
stands-requires c = (c.requires.le_p.0, omega (arith, c.requires.le_p.1, few _ c.requires.line_value))

pub stands-requires-then-stands : goal.stands-requires-then-stands
stands-requires-then-stands c =
    let g = c.requires.line_value in
    let p = c.requires.le_p in
    let e = c.buddy_of.ensures in
    (omega (arith, e, buddy_low _ g c.args.p p.0 p.1), omega (arith, e, buddy_high _ g c.args.p p.0 p.1, few _ g))
