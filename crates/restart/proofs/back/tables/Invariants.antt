use Rattle.std.specs.Prelude.{◌≡◌, length}
use Rattle.store.specs.View.{view}
use Rattle.restart.specs.{Homes.{Going}}
use Rattle.restart.proofs.back.tables.Given as goal

abbrev pub invariant-loop-c : goal.invariant-loop-c
invariant-loop-c l = (length l.rows ≡ 13) × Going (view l.s) l.p l.c l.rows
