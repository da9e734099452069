-- `settle::has_caught_up` meets its contract: below its target, or there.
use Rattle.std.specs.Prelude.{◌≡◌, ◌+◌, ◌-◌}
use Rattle.std.proofs.Common.{◌∙◌, arith}
use Rattle.memory.specs.Places.{MEMORY}
use Rattle.store.specs.Places.{live_from}
use Rattle.settle.specs.Done.{behind, there}
use Rattle.settle.proofs.has_caught_up.Goals as goal

pub returns-else-target-height : goal.returns-else-target-height
returns-else-target-height c =
    let a = live_from c.args.c in
    let m : (a + MEMORY) - a ≡ MEMORY = omega arith in
    behind _ _ c.requires _ _ (rw m at c.height.ensures) c.target.ensures c.if-target-height.false

pub returns-then-target-height : goal.returns-then-target-height
returns-then-target-height c =
    let a = live_from c.args.c in
    let m : (a + MEMORY) - a ≡ MEMORY = omega arith in
    (rw m at c.all_ticketed.ensures) ∙ there _ _ c.requires _ _ (rw m at c.height.ensures) c.target.ensures c.if-target-height.true
