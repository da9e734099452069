use Rattle.std.specs.Prelude.{◌≡◌, length}
use Rattle.arrays.specs.ArrayMap.{as_map}
use Rattle.store.specs.{Places.STORE, View.view}
use Rattle.checkpoint.specs.Cleaning.{cleaned_to}
use Rattle.checkpoint.proofs.clean.Given as goal

abbrev pub invariant-loop-c : goal.invariant-loop-c
invariant-loop-c l = (length l.s ≡ STORE) × (view l.s ≡ cleaned_to (as_map 0 l.limits) (view l.initial.s) l.c)
