-- `opening::start_chares` meets its contract: those before c have started.
use Rattle.std.proofs.Common.{◌+◌, ap, ◌∙◌, arith, rules}
use Rattle.opening.specs.States.{started, below_start, below_more, below_end}
use Rattle.opening.proofs.start_chares.Goals as goal

pub loop-c-init : goal.loop-c-init
loop-c-init c = (c.told-s, below_start _ _)

pub loop-c-preserved : goal.loop-c-preserved
loop-c-preserved c =
    (c.start_chare.array_long, c.start_chare.ensures ∙ ap (λ v. started v c.loop-c.c) c.loop-c.invariant.1 ∙ below_more _ _ c.loop-c.c (search rules) (omega arith))

pub returns : goal.returns
returns c =
    let l = c.loop-c in
    l.invariant.1 ∙ below_end _ _ l.c (omega arith)

pub returns-2 : goal.returns-2
returns-2 c =
    c.start_chare.ensures ∙ ap (λ v. started v c.loop-c.c) c.loop-c.invariant.1 ∙ below_more _ _ c.loop-c.c (search rules) (omega arith) ∙ below_end _ _ (c.loop-c.c + 1) (omega arith)
