-- `settle::settle` meets its contract: the machines from p on are still to settle.
use Rattle.std.specs.Prelude.{◌≡◌, ◌+◌, ◌-◌}
use Rattle.std.proofs.Common.{arith}
use Rattle.protocol.specs.{Parts.job_machines, Restart.{settle}}
use Rattle.store.specs.View.{view}
use Rattle.settle.specs.Settled.{settle_more, settle_end}
use Rattle.settle.proofs.settle.Goals as goal

pub loop-p-init : goal.loop-p-init
unfolding settle job_machines view
loop-p-init c =
    let m = c.machines-p-end in
    let e : m.result + 1 - 1 ≡ m.result = omega arith in
    rw (e, m.ensures.is)

pub loop-p-preserved : goal.loop-p-preserved
loop-p-preserved c =
    settle_more _ _ c.loop-p.p _ c.loop-p.invariant (omega arith) _ c.settle_machine.ensures

pub returns : goal.returns
returns c = settle_end _ _ c.loop-p.p _ c.loop-p.invariant (omega arith)

pub returns-2 : goal.returns-2
returns-2 c =
    settle_end _ _ (c.loop-p.p + 1) _ (settle_more _ _ c.loop-p.p _ c.loop-p.invariant (omega arith) _ c.settle_machine.ensures) (omega arith)
