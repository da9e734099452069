-- `resend_sorted` sends a sorted copy of the log.
use Rattle.std.proofs.Common.{◌∙◌}
use Rattle.restart.proofs.resend.resend_sorted.Goals as goal

pub returns : goal.returns
returns c =
    let r = c.resend_log in
    let e = c.copy_from_slice.ensures.after in
    record { row = r.ensures.row ∙ rw (c.sort.ensures.row.items, e); words = r.ensures.words ∙ rw (c.sort.ensures.row.items, e) }
