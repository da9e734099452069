use Rattle.std.specs.Prelude.{◌≡◌, length}
use Rattle.store.specs.{Places.STORE, View.view}
use Rattle.checkpoint.specs.Fixing.{fixed_to}
use Rattle.checkpoint.proofs.fix.Given as goal

abbrev pub invariant-loop-c : goal.invariant-loop-c
invariant-loop-c l = (length l.s ≡ STORE) × (view l.s ≡ fixed_to (view l.initial.s) l.p l.c)
