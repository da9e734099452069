use Rattle.std.specs.Prelude.{◌≡◌, drop}
use Rattle.restart.specs.{Tables.{entering}, Sources.copied}
use Rattle.restart.specs.Words.{AllPacked}
use Rattle.lists.specs.Lists.{gather}
use Rattle.tickets.specs.{Table.{entries}}
use Rattle.restart.proofs.table.from_copy.Given as goal

abbrev pub invariant-loop-w : goal.invariant-loop-w
invariant-loop-w l = (entering (entries l.initial.row) (gather copied (entries l.t)) ≡ entering (entries l.row) (gather copied (drop l.w-index (entries l.t)))) × (AllPacked l.initial.row → AllPacked l.row)
