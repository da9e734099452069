use Rattle.std.proofs.Common.{rules}
use Rattle.store.specs.ViewLaws.{span}
use Rattle.sends.specs.{Reading.planned, Plan.plan_of}
use Rattle.sends.proofs.plan.plan_of.Goals as goal

pub returns : goal.returns
unfolding plan_of
returns c =
    let a = c.args in
    let e = span a.b in
    planned a.s.now a.a a.b (search rules) _ c.is_local-near.ensures _ _ c.last_sn-last.ensures _ _ _ (rw e at c.plan_on.ensures)
