-- `from_logs` goes through the logs. The loop: those from q on are still to be entered.
use Rattle.std.specs.Prelude.{refl}
use Rattle.std.proofs.Common.{arith}
use Rattle.std.proofs.lemmas.Result.{err_from_is_err_and}
use Rattle.lists.specs.Lists.{gather}
use Rattle.protocol.specs.{Parts.{every_chare, every_sender}, Restart.{enter, other_log}}
use Rattle.tickets.specs.Table.{entries}
use Rattle.store.specs.View.{view}
use Rattle.restart.specs.{Limited.{more_end, more_skip, more_on, more_stop}, Ranges.{range, range_next, range_past}}
use Rattle.restart.specs.{Sources.sender_tickets, Stored.live_log, OnMachine.home_at}
use Rattle.restart.proofs.table.from_logs.Goals as goal
use Rattle.restart.proofs.table.from_logs.Goals.{then-not-on+in_ok-from_log, else-not-on}

pub loop-q-init : goal.loop-q-init
unfolding every_sender every_chare range
loop-q-init c = (refl, λ h. h)

pub returns-in_err-from_log : goal.returns-in_err-from_log
unfolding sender_tickets other_log
returns-in_err-from_log c =
    let a = c.args in
    let l = c.loop-q in
    let f = c.in_err-from_log.ensures in
    let p = err_from_is_err_and c.from_residual.result c.from_residual.ensures.1 in
    let there = home_at a.s.now a.p l.q _ _ c.on.ensures c.if-not-on.true in
    rw p.1 (record {
      row = more_stop 16 enter (sender_tickets (view a.s.now) a.p a.c a.h) _ (entries l.row) _ l.invariant.0
          l.q _ (range_next 13 l.q (omega arith)) _ (rw (there, live_log a.s.now l.q (omega arith)) f.row);
      words = λ h. f.words (l.invariant.1 h);
    })

pub loop-q-preserved : goal.loop-q-preserved
unfolding sender_tickets other_log gather
loop-q-preserved c =
    let a = c.args in
    let l = c.loop-q in
    let step = range_next 13 l.q (omega arith) in
    elim c.if-not-on.branch [
      | then-not-on+in_ok-from_log w ↦
          let there = home_at a.s.now a.p l.q _ _ c.on.ensures w.if-not-on.true in
          let f = w.in_ok-from_log.ensures in
          rw w.row-is (
            more_on 16 enter (sender_tickets (view a.s.now) a.p a.c a.h) _ (entries l.row) _ l.invariant.0 l.q _ step _ (rw (there, live_log a.s.now l.q (omega arith)) f.row),
            λ h. f.words (l.invariant.1 h),
          )
      | else-not-on w ↦
          let here = home_at a.s.now a.p l.q _ _ c.on.ensures w.if-not-on.false in
          rw w.row-is (more_skip 16 enter (sender_tickets (view a.s.now) a.p a.c a.h) _ (entries l.row) _ l.invariant.0 l.q _ step (rw here), l.invariant.1)
    ]

pub returns : goal.returns
returns c =
    let a = c.args in
    let l = c.loop-q in
    record {
      row = more_end 16 enter (sender_tickets (view a.s.now) a.p a.c a.h) _ (entries l.row) _ l.invariant.0 (range_past 13 l.q (omega arith));
      words = l.invariant.1;
    }
