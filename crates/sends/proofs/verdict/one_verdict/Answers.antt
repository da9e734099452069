use Rattle.std.proofs.Common.{arith}
use Rattle.sends.specs.{Sends.one_verdict, Room.growth_top}
use Rattle.sends.proofs.verdict.one_verdict.Goals as goal

pub overflow_add-wire : goal.overflow_add-wire
overflow_add-wire c = omega (arith, c.growth.ensures, growth_top c.args.p.ticket)

pub returns : goal.returns
unfolding one_verdict
returns c = rw (c.answer.ensures, c.growth.ensures, c.fits.ensures)
