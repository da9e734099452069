use Rattle.std.specs.Prelude.{◌≡◌, length}
use Rattle.store.specs.{Places.{STORE}, View.view}
use Rattle.crash.specs.Memories.{copy_to}
use Rattle.crash.proofs.lose_copies.Given as goal

abbrev pub invariant-loop-c : goal.invariant-loop-c
invariant-loop-c l = (length l.s ≡ STORE) × (view l.s ≡ copy_to (view l.initial.s) l.p l.c)
