-- `lines::digit` meets its contract: the digits 0 to 9, and the capitals.
use Rattle.std.proofs.Common.{arith}
use Rattle.std.proofs.lemmas.Bool.Decides.{nat_tests}
use Rattle.protocol.specs.Lines.{printed_digit}
use Rattle.lines.proofs.digit.Goals as goal

pub returns-then-d-lt10 : goal.returns-then-d-lt10
unfolding printed_digit
returns-then-d-lt10 c = grind (arith, nat_tests)

pub returns-else-d-lt10 : goal.returns-else-d-lt10
unfolding printed_digit
returns-else-d-lt10 c = grind (arith, nat_tests)
