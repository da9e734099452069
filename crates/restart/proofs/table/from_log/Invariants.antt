use Rattle.std.specs.Prelude.{◌≡◌, drop}
use Rattle.restart.specs.{Tables.{entering}, Sources.logged}
use Rattle.restart.specs.Words.{AllPacked}
use Rattle.lists.specs.Lists.{gather}
use Rattle.tickets.specs.Table.{entries}
use Rattle.logs.specs.{Log.{entries as messages}}
use Rattle.restart.proofs.table.from_log.Given as goal

abbrev pub invariant-loop-w : goal.invariant-loop-w
invariant-loop-w l = (entering (entries l.initial.row) (gather (logged l.c l.h) (messages l.l)) ≡ entering (entries l.row) (gather (logged l.c l.h) (drop l.w-index (messages l.l)))) × (AllPacked l.initial.row → AllPacked l.row)
