-- `opening::fill` meets its contract: k words are written.
use Rattle.std.proofs.Common.{arith, rules}
use Rattle.head.specs.Cells.{Filled, fill_more, fill_end}
use Rattle.opening.proofs.fill.Goals as goal

pub loop-k-init : goal.loop-k-init
unfolding Filled
loop-k-init g c = λ f says j h. absurd (omega arith)

pub loop-k-preserved : goal.loop-k-preserved
loop-k-preserved g c =
    let l = c.loop-k in
    λ f says. fill_more _ l.part l.k _ (l.invariant f says) (search rules) (says _ _ (search rules) (search rules))

pub returns : goal.returns
returns g c f says =
    let l = c.loop-k in
    fill_end _ _ l.k _ (l.invariant f says) (search rules)
