-- `lines::print` meets its contract: each answer, byte by byte.
use Rattle.std.specs.Prelude.{◌≡◌}
use Rattle.std.proofs.Common.{◌∙◌}
use Rattle.protocol.specs.{Lines.{line_01, ending, line, hexadecimal, two_decimals}}
use Rattle.lines.proofs.print.Goals as goal

pub put-requires-in-Shown : goal.put-requires-in-Shown
unfolding hexadecimal
put-requires-in-Shown c =
    let height = c.hexadecimal.ensures in
    let state : c.hexadecimal-in-Shown.new.out ≡ hexadecimal 8 c.in-Shown.state = rw height at c.hexadecimal-in-Shown.ensures in
    rw (height, state) c.requires

pub returns-in-Accepted : goal.returns-in-Accepted
unfolding line line_01 ending
returns-in-Accepted c =
    let e = c.in-Accepted.is in
    record { count = rw (e, c.put.ensures.count); bytes = rw e (c.put.ensures.bytes ∙ rw c.letter.ensures) }

pub returns-in-Lost : goal.returns-in-Lost
unfolding line line_01 ending
returns-in-Lost c =
    let e = c.in-Lost.is in
    record { count = rw (e, c.put-in-Lost.ensures.count); bytes = rw e c.put-in-Lost.ensures.bytes }

pub returns-in-Refused : goal.returns-in-Refused
unfolding line line_01 ending two_decimals
returns-in-Refused c =
    let e = c.in-Refused.is in
    record { count = rw (e, c.put-in-Refused.ensures.count); bytes = rw e c.put-in-Refused.ensures.bytes }

pub returns-in-Shown : goal.returns-in-Shown
unfolding line line_01 ending hexadecimal
returns-in-Shown c =
    let e = c.in-Shown.is in
    let height = c.hexadecimal.ensures in
    let state : c.hexadecimal-in-Shown.new.out ≡ hexadecimal 8 c.in-Shown.state = rw height at c.hexadecimal-in-Shown.ensures in
    let count : c.put-in-Shown.result ≡ 16 = rw (height, state) at c.put-in-Shown.ensures.count in
    record { count = rw (e, count); bytes = rw (e, ← c.letter-in-Shown.ensures) (rw (height, state) at c.put-in-Shown.ensures.bytes) }
