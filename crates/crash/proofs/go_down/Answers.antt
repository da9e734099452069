-- `crash::go_down` meets its contract: one part after the other.
use Rattle.store.specs.View.{view}
use Rattle.crash.specs.Whole.{crash_is}
use Rattle.crash.proofs.go_down.Goals as goal

pub returns : goal.returns
returns c =
    crash_is c.args.s.now c.args.p (view c.lose_live.new.s) (view c.lose_copies.new.s) (view c.lose_notes.new.s) _ c.told-s c.requires c.lose_live.ensures c.lose_copies.ensures c.lose_notes.ensures c.lose_packets.ensures
