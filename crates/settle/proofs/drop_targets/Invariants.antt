use Rattle.std.specs.Prelude.{◌≡◌, length}
use Rattle.store.specs.{Places.STORE, View.view}
use Rattle.settle.specs.Targets.{dropped_to}
use Rattle.settle.proofs.drop_targets.Given as goal

abbrev pub invariant-loop-c : goal.invariant-loop-c
invariant-loop-c l = (length l.s ≡ STORE) × (view l.s ≡ dropped_to (view l.initial.s) l.p l.c)
