use Rattle.std.specs.Prelude.{◌≡◌, drop}
use Rattle.restart.specs.{Fills.filling}
use Rattle.restart.specs.Words.{AllPacked}
use Rattle.tickets.specs.Table.{entries}
use Rattle.logs.specs.{Log.{entries as messages}}
use Rattle.restart.proofs.table.fill_from.Given as goal

abbrev pub invariant-loop-w : goal.invariant-loop-w
invariant-loop-w l = (filling l.c l.h (entries l.initial.row) (messages l.l) ≡ filling l.c l.h (entries l.row) (drop l.w-index (messages l.l))) × (AllPacked l.initial.row → AllPacked l.row)
