use Rattle.std.specs.Prelude.{◌≡◌}
use Rattle.store.specs.View.{view}
use Rattle.restart.specs.{Homes.{backs}}
use Rattle.restart.proofs.back.all_back.Given as goal

abbrev pub invariant-loop-c : goal.invariant-loop-c
invariant-loop-c l = view l.s ≡ backs (view l.initial.s) l.p l.rows l.c
