-- `crash::lose_packets` meets its contract: the wire is lent beside all before it.
use Rattle.std.proofs.Common.{arith}
use Rattle.crash.specs.Whole.{wire_beside}
use Rattle.crash.proofs.lose_packets.Goals as goal

pub returns : goal.returns
returns c =
    let parts = c.split_at_mut-h.ensures in
    wire_beside c.args.s.now c.told-s _ _ parts.front parts.back c.after_crash.new.ws c.args.p (omega arith) c.after_crash.ensures.row.items
