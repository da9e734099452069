use Rattle.std.specs.Prelude.{◌≡◌, length}
use Rattle.store.specs.{Places.STORE, View.view}
use Rattle.opening.specs.States.{below}
use Rattle.opening.proofs.start_chares.Given as goal

abbrev pub invariant-loop-c : goal.invariant-loop-c
invariant-loop-c l = (length l.s ≡ STORE) × (view l.s ≡ below (view l.initial.s) l.n l.c)
