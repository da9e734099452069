use Rattle.std.specs.Prelude.{◌≡◌, length}
use Rattle.store.specs.{Places.{STORE}, View.view}
use Rattle.crash.specs.Memories.{live_to}
use Rattle.crash.proofs.lose_live.Given as goal

abbrev pub invariant-loop-c : goal.invariant-loop-c
invariant-loop-c l = (length l.s ≡ STORE) × (view l.s ≡ live_to (view l.initial.s) l.p l.c)
