-- `change` sets the status, then memories and targets, then the wire.
use Rattle.std.proofs.Common.{◌∙◌, arith}
use Rattle.head.specs.Head.{as_status}
use Rattle.store.specs.ViewLaws.{status_set, wire_put}
use Rattle.restart.specs.Whole.{back}
use Rattle.restart.proofs.change.Goals as goal

pub returns : goal.returns
unfolding back as_status
returns c =
    let a = c.args in
    let b = c.all_back in
    rw c.copy_from_slice.ensures.after
    (wire_put b.new.s b.array_long a.wire.now c.told-wire ∙ rw (b.ensures, status_set a.s.now c.told-s 2 a.p (omega arith)))
