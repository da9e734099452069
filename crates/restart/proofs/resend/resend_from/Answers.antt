-- `resend_from` takes the log of the copy, or the live one.
use Rattle.restart.specs.{Stored.{live_log, copy_log}, OnMachine.home_at, Resends.{log_back, all_again}}
use Rattle.restart.proofs.resend.resend_from.Goals as goal
use Rattle.restart.proofs.resend.resend_from.Goals.{then-here, else-here}

pub returns : goal.returns
unfolding all_again log_back
returns c =
    let a = c.args in
    elim c.if-here.branch [
      | then-here w ↦ (
          let here = home_at a.s.now a.p a.q _ _ c.on-here.ensures w.if-here.true in
          let log = copy_log a.s.now a.q c.requires.1 in record {
            row = rw (here, log) (rw (w.from-is, w.if-here.true) at c.resend_sorted.ensures.row);
            words = rw (here, log) (rw (w.from-is, w.if-here.true) at c.resend_sorted.ensures.words);
          })
      | else-here w ↦ (
          let there = home_at a.s.now a.p a.q _ _ c.on-here.ensures w.if-here.false in
          let log = live_log a.s.now a.q c.requires.1 in record {
            row = rw (there, log) (rw (w.from-is, w.if-here.false) at c.resend_sorted.ensures.row);
            words = rw (there, log) (rw (w.from-is, w.if-here.false) at c.resend_sorted.ensures.words);
          })
    ]
