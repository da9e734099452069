use Rattle.std.specs.Prelude.{◌≡◌, ◌+◌, ◌-◌}
use Rattle.lists.specs.Counting.{counting}
use Rattle.protocol.specs.Restart.{settle, settle_all}
use Rattle.store.specs.View.{view}
use Rattle.settle.proofs.settle.Given as goal

abbrev pub invariant-loop-p : goal.invariant-loop-p
invariant-loop-p l = settle (view l.initial.s) ≡ settle_all (view l.s) (counting (l.p-end + 1 - l.p) l.p)
