-- `checkpoint::hold` meets its contract: one word of the head, then the notes.
use Rattle.std.specs.Prelude.{[], ◌≡◌, ◌+◌, ◌-◌, ◌*◌}
use Rattle.std.proofs.Common.{arith}
use Rattle.store.specs.{Visits.held_put, Places.{NOTES, NOTELIST}}
use Rattle.checkpoint.specs.Parts.{holding}
use Rattle.checkpoint.proofs.hold.Goals as goal

pub returns : goal.returns
unfolding holding
returns c =
    let e : (NOTES + c.args.p * NOTELIST + NOTELIST) - (NOTES + c.args.p * NOTELIST) ≡ NOTELIST = omega arith in
    rw e (held_put c.args.s.now c.told-s c.args.p c.requires _ c.empty.new.ws (omega arith) [] c.empty.ensures.items)
