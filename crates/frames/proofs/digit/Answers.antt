-- `frames::digit` meets its contract: a range of characters after the other, and what stands in none of them.
use Rattle.std.proofs.Common.{arith}
use Rattle.std.proofs.lemmas.Bool.Decides.{nat_tests}
use Rattle.std.proofs.iter.runs.Sources.{ranges}
use Rattle.protocol.specs.Frames.{digit, between}
use Rattle.frames.specs.Decode.{is_some, or_zero, is_digit, digit_value}
use Rattle.frames.proofs.digit.Goals as goal

pub returns-then-contains : goal.returns-then-contains
unfolding is_digit digit_value is_some or_zero digit between
returns-then-contains c = grind (arith, nat_tests, ranges)

pub returns-then-contains-2 : goal.returns-then-contains-2
unfolding is_digit digit_value is_some or_zero digit between
returns-then-contains-2 c = grind (arith, nat_tests, ranges)

pub returns-then-contains-3 : goal.returns-then-contains-3
unfolding is_digit digit_value is_some or_zero digit between
returns-then-contains-3 c = grind (arith, nat_tests, ranges)

pub returns-else-contains-3 : goal.returns-else-contains-3
unfolding is_digit digit_value is_some or_zero digit between
returns-else-contains-3 c = grind (arith, nat_tests, ranges)
