use Rattle.std.specs.Prelude.{◌≡◌, length}
use Rattle.store.specs.{Places.{STORE}, View.view}
use Rattle.crash.specs.Keeping.{kept_to}
use Rattle.crash.proofs.lose_notes.Given as goal

abbrev pub invariant-loop-q : goal.invariant-loop-q
invariant-loop-q l = (length l.s ≡ STORE) × (view l.s ≡ kept_to (view l.initial.s) l.p l.q)
