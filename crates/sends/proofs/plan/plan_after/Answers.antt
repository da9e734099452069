use Rattle.std.proofs.Common.{◌∙◌, rules}
use Rattle.store.specs.ViewLaws.{span}
use Rattle.sends.specs.{Reading.planned, Plan.plan_after}
use Rattle.sends.proofs.plan.plan_after.Goals as goal

pub returns : goal.returns
unfolding plan_after
returns c =
    let a = c.args in
    let e = span a.d in
    planned a.s.now a.a a.d (search rules) _ c.is_local-near.ensures _ _
    (c.last_after-last.ensures ∙ rw (c.last_sn.ensures, c.last_sn-2.ensures)) _ _ _ (rw e at c.plan_on.ensures)
