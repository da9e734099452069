-- `store::last_sn` meets its contract: the sender's memory has it.
use Rattle.std.proofs.Common.{rules}
use Rattle.store.specs.ViewLaws.{span, live_at}
use Rattle.store.proofs.last_sn.Goals as goal

pub returns : goal.returns
returns c =
    let a = c.args in
    let e = span a.a in
    rw (live_at a.s.now a.a (search rules)) (rw e at c.sn.ensures)
