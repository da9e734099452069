use Rattle.std.proofs.Common.{rules}
use Rattle.store.specs.ViewLaws.{span, live_at}
use Rattle.sends.proofs.logged.Goals as goal

pub returns : goal.returns
returns c =
    let a = c.args in
    let e = span a.a in
    record { is = rw (live_at a.s.now a.a (search rules)) (rw e at c.log_count.ensures.is); within = c.log_count.ensures.within }
