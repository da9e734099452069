-- `frames::pair` meets its contract: two digits, and the byte that they make.
use Rattle.std.proofs.Common.{sym}
use Rattle.frames.specs.{Decode.is_pair, DecodeLaws.decoded_at}
use Rattle.frames.proofs.pair.Goals as goal

pub returns-in_err-high : goal.returns-in_err-high
unfolding is_pair
returns-in_err-high c = rw c.from_residual.ensures (rw c.in_err-high.ensures)

pub returns-in_err-low : goal.returns-in_err-low
unfolding is_pair
returns-in_err-low c =
    let high = c.in_ok-high.ensures in
    rw c.from_residual-in_err-low.ensures (rw (high.0, c.in_err-low.ensures))

pub returns : goal.returns
unfolding is_pair
returns c =
    let high = c.in_ok-high.ensures in
    let low = c.in_ok-low.ensures in
    (rw (high.0, low.0), rw (high.1, low.1) (sym (decoded_at _ _ c.requires)))
