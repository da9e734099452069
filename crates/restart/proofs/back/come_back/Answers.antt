-- `come_back` copies the memory, renews it and sets the target.
use Rattle.std.proofs.Common.{arith}
use Rattle.restart.specs.Restored.{back_is}
use Rattle.tickets.specs.Table.{entries}
use Rattle.restart.proofs.back.come_back.Goals as goal

pub returns : goal.returns
returns c =
    let a = c.args in
    let r = c.renew-target in
    back_is a.s.now c.told-s a.c c.requires (entries a.row.now) _ _ _ c.copy.ensures (omega arith) r.ensures.memory r.ensures.target
