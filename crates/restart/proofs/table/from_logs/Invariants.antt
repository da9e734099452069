use Rattle.std.specs.Prelude.{◌≡◌}
use Rattle.restart.specs.Words.{AllPacked}
use Rattle.lists.specs.Lists.{gather}
use Rattle.protocol.specs.{Parts.{every_sender}}
use Rattle.tickets.specs.Table.{entries}
use Rattle.store.specs.View.{view}
use Rattle.restart.specs.{Tables.entering, Ranges.{range}}
use Rattle.restart.specs.{Sources.sender_tickets}
use Rattle.restart.proofs.table.from_logs.Given as goal

abbrev pub invariant-loop-q : goal.invariant-loop-q
invariant-loop-q l = (entering (entries l.initial.row) (gather (sender_tickets (view l.s) l.p l.c l.h) every_sender) ≡ entering (entries l.row) (gather (sender_tickets (view l.s) l.p l.c l.h) (range 13 l.q))) × (AllPacked l.initial.row → AllPacked l.row)
