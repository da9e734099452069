-- `from_log` enters the tickets of a log. The loop: the messages not yet passed are still to be entered.
use Rattle.std.proofs.Common.{sym, ◌∙◌, arith, rules}
use Rattle.std.proofs.lemmas.Result.{err_from_is_err_and}
use Rattle.restart.specs.{Gather.{chosen, next_item, no_item}, Limited.{more_end, more_skip, more_on, more_stop}, Tables.{entering_one}, Sources.logged}
use Rattle.restart.specs.Words.{packed_enter}
use Rattle.protocol.specs.Restart.{enter, ticket_of_logged}
use Rattle.tickets.specs.Table.{entries}
use Rattle.logs.specs.{Log.{entries as messages, logged_of}, Fits.word_fits}
use Rattle.restart.proofs.table.from_log.Goals as goal
use Rattle.restart.proofs.table.from_log.Goals.{then-is_above+in_ok-enter_once, else-is_above}

pub returns-in_err-enter_once : goal.returns-in_err-enter_once
unfolding logged ticket_of_logged chosen messages
returns-in_err-enter_once c =
    let a = c.args in
    let l = c.loop-w in
    let x = c.unpack-x in
    let e = c.in_err-enter_once.ensures in
    let p = err_from_is_err_and c.from_residual.result c.from_residual.ensures.1 in
    rw p.1 (record {
      row = more_stop 16 enter (logged a.c a.h) _ (entries l.row) _ l.invariant.0
          x.result _ (next_item logged_of _ _ c.items-w-items.ensures l.w-index x.result x.ensures (omega arith))
          _ (rw (sym c.is_above.ensures ∙ c.if-is_above.true) (entering_one l.row _ x.result.message.sender _ _ _ (search rules) (rw x.ensures (word_fits _).sender) e));
      words = λ h. packed_enter e (l.invariant.1 h);
    })

pub loop-w-preserved : goal.loop-w-preserved
unfolding logged ticket_of_logged chosen messages
loop-w-preserved c =
    let a = c.args in
    let l = c.loop-w in
    let x = c.unpack-x in
    let step = next_item logged_of _ _ c.items-w-items.ensures l.w-index x.result x.ensures (omega arith) in
    elim c.if-is_above.branch [
      | then-is_above+in_ok-enter_once w ↦
          let e = w.in_ok-enter_once.ensures in
          rw w.row-is (
            more_on 16 enter (logged a.c a.h) _ (entries l.row) _ l.invariant.0 x.result _ step
                _ (rw (sym c.is_above.ensures ∙ w.if-is_above.true) (entering_one l.row _ x.result.message.sender _ _ _ (search rules) (rw x.ensures (word_fits _).sender) e)),
            λ h. packed_enter e (l.invariant.1 h),
          )
      | else-is_above w ↦
          rw w.row-is (more_skip 16 enter (logged a.c a.h) _ (entries l.row) _ l.invariant.0 x.result _ step (rw (sym c.is_above.ensures ∙ w.if-is_above.false)), l.invariant.1)
    ]

pub returns : goal.returns
unfolding messages
returns c =
    let a = c.args in
    let l = c.loop-w in
    record {
      row = more_end 16 enter (logged a.c a.h) _ (entries l.row) _ l.invariant.0 (no_item logged_of _ _ c.items-w-items.ensures l.w-index c.loop-w-test.false);
      words = l.invariant.1;
    }
