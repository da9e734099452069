-- `forget`: the SN before, then the log without the message.
use Rattle.std.proofs.Common.{arith, rules}
use Rattle.withdraw.specs.Withdrawn.{forgotten_put}
use Rattle.withdraw.proofs.forget.Goals as goal

pub returns : goal.returns
returns c =
    let a = c.args in
    forgotten_put a.m.now c.remove.new.ws c.requires.m_len (omega arith) a.c a.n c.saturating_sub.result c.requires.c_bound (search rules) c.saturating_sub.ensures c.remove.ensures.row.items
