use Rattle.std.specs.Prelude.{◌≡◌, length}
use Rattle.arrays.specs.ArrayMap.{as_map}
use Rattle.store.specs.View.{view}
use Rattle.checkpoint.specs.Limits.{limits_to}
use Rattle.checkpoint.proofs.limits.Given as goal

abbrev pub invariant-loop-c : goal.invariant-loop-c
invariant-loop-c l = (length l.r ≡ 13) × (as_map 0 l.r ≡ limits_to (view l.s) l.p l.c)
