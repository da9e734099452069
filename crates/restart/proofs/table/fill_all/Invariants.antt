use Rattle.std.specs.Prelude.{◌≡◌}
use Rattle.restart.specs.Words.{AllPacked}
use Rattle.lists.specs.Lists.{gather}
use Rattle.protocol.specs.{Parts.every_chare, Restart.{local_log}}
use Rattle.tickets.specs.Table.{entries}
use Rattle.store.specs.View.{view}
use Rattle.restart.specs.{Fills.{filling}, Ranges.{range}}
use Rattle.restart.proofs.table.fill_all.Given as goal

abbrev pub invariant-loop-q : goal.invariant-loop-q
invariant-loop-q l = (filling l.c l.h (entries l.initial.row) (gather (local_log (view l.s) l.p) every_chare) ≡ filling l.c l.h (entries l.row) (gather (local_log (view l.s) l.p) (range 13 l.q))) × (AllPacked l.initial.row → AllPacked l.row)
