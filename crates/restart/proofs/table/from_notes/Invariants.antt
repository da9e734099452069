use Rattle.std.specs.Prelude.{◌≡◌, drop}
use Rattle.restart.specs.{Tables.{entering}, Sources.noted}
use Rattle.restart.specs.Words.{AllPacked}
use Rattle.lists.specs.Lists.{gather}
use Rattle.tickets.specs.Table.{entries}
use Rattle.notelist.specs.{Notes.{notes}}
use Rattle.restart.proofs.table.from_notes.Given as goal

abbrev pub invariant-loop-w : goal.invariant-loop-w
invariant-loop-w l = (entering (entries l.initial.row) (gather (noted l.c l.h) (notes l.n)) ≡ entering (entries l.row) (gather (noted l.c l.h) (drop l.w-index (notes l.n)))) × (AllPacked l.initial.row → AllPacked l.row)
