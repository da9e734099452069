-- `resend_log` goes through a log. The loop: the messages not yet passed are still to be sent.
use Rattle.std.proofs.Common.{sym, ap, ◌∙◌, arith}
use Rattle.std.proofs.lemmas.Result.{err_from_is_err_and}
use Rattle.logs.specs.{Log.{logged_of, entries as messages}, Fits.word_fits}
use Rattle.item.specs.Item.{items}
use Rattle.packets.specs.Words.{packets}
use Rattle.store.specs.{View.view}
use Rattle.restart.specs.{Limited.{more_end, more_skip, more_on, more_stop}, Gather.{next_item, no_item}, Resends.{packets_of, again}, Sent.{one_more, word_more, putting_words, put_again}}
use Rattle.restart.proofs.resend.resend_log.Goals as goal
use Rattle.restart.proofs.resend.resend_log.Goals.{in-Some+in_ok-put, in_default}

pub returns-in_err-put : goal.returns-in_err-put
unfolding packets_of messages
returns-in_err-put c =
    let a = c.args in
    let l = c.loop-w in
    let x = c.unpack-x in
    let f = c.in_err-put.ensures in
    let e = next_item logged_of _ _ c.items-w-items.ensures l.w-index x.result x.ensures (omega arith) in
    let r = err_from_is_err_and c.from_residual.result c.from_residual.ensures.1 in
    rw r.1 (record {
      row = more_stop 128 one_more (again (view a.s.now) a.p a.here) _ (packets l.wire) _ l.invariant.0 x.result _ e _
          (put_again x.result (rw x.ensures (word_fits _)) (view a.s.now) a.p a.here _ c.in-Some.ensures (packets l.wire) _ f.row);
      words = more_stop 128 word_more (again (view a.s.now) a.p a.here) _ (items l.wire) _ l.invariant.1 x.result _ e _
          (f.words ∙ ap (putting_words (items l.wire)) c.in-Some.ensures);
    })

pub loop-w-preserved : goal.loop-w-preserved
unfolding packets_of messages
loop-w-preserved c =
    let a = c.args in
    let l = c.loop-w in
    let x = c.unpack-x in
    let e = next_item logged_of _ _ c.items-w-items.ensures l.w-index x.result x.ensures (omega arith) in
    elim c.match-resend.branch [
      | in-Some+in_ok-put w ↦
          let o = w.in-Some.ensures in
          let f = w.in_ok-put.ensures in
          rw w.wire-is (
            more_on 128 one_more (again (view a.s.now) a.p a.here) _ (packets l.wire) _ l.invariant.0 x.result _ e _
                (put_again x.result (rw x.ensures (word_fits _)) (view a.s.now) a.p a.here _ o (packets l.wire) _ f.row),
            more_on 128 word_more (again (view a.s.now) a.p a.here) _ (items l.wire) _ l.invariant.1 x.result _ e _ (f.words ∙ ap (putting_words (items l.wire)) o),
          )
      | in_default w ↦
          let o = sym w.in_default.ensures in
          rw w.wire-is (
            more_skip 128 one_more (again (view a.s.now) a.p a.here) _ (packets l.wire) _ l.invariant.0 x.result _ e o,
            more_skip 128 word_more (again (view a.s.now) a.p a.here) _ (items l.wire) _ l.invariant.1 x.result _ e o,
          )
    ]

pub returns : goal.returns
unfolding messages
returns c =
    let a = c.args in
    let l = c.loop-w in
    let e = no_item logged_of _ _ c.items-w-items.ensures l.w-index c.loop-w-test.false in
    record {
      row = more_end 128 one_more (again (view a.s.now) a.p a.here) _ (packets l.wire) _ l.invariant.0 e;
      words = more_end 128 word_more (again (view a.s.now) a.p a.here) _ (items l.wire) _ l.invariant.1 e;
    }
