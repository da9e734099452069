-- `resend_all` goes through the logs. The loop: those from q on are still to be sent.
use Rattle.std.specs.Prelude.{refl}
use Rattle.std.proofs.Common.{arith}
use Rattle.std.proofs.lemmas.Result.{err_from_is_err_and}
use Rattle.protocol.specs.Parts.{every_chare, every_sender}
use Rattle.item.specs.Item.{items}
use Rattle.packets.specs.Words.{packets}
use Rattle.store.specs.{View.view}
use Rattle.restart.specs.{Ranges.{range, range_next, range_past}, Limited.{more_end, more_on, more_stop}, Resends.all_again, Sent.{one_more, word_more}}
use Rattle.restart.proofs.resend.resend_all.Goals as goal

pub loop-q-init : goal.loop-q-init
unfolding every_sender every_chare range
loop-q-init c = (refl, refl)

pub returns-in_err-resend_from : goal.returns-in_err-resend_from
returns-in_err-resend_from c =
    let a = c.args in
    let l = c.loop-q in
    let f = c.in_err-resend_from.ensures in
    let e = range_next 13 l.q (omega arith) in
    let r = err_from_is_err_and c.from_residual.result c.from_residual.ensures.1 in
    rw r.1 (record {
      row = more_stop 128 one_more (all_again (view a.s.now) a.p) _ (packets l.wire) _ l.invariant.0 l.q _ e _ f.row;
      words = more_stop 128 word_more (all_again (view a.s.now) a.p) _ (items l.wire) _ l.invariant.1 l.q _ e _ f.words;
    })

pub loop-q-preserved : goal.loop-q-preserved
loop-q-preserved c =
    let a = c.args in
    let l = c.loop-q in
    let f = c.in_ok-resend_from.ensures in
    let e = range_next 13 l.q (omega arith) in (
      more_on 128 one_more (all_again (view a.s.now) a.p) _ (packets l.wire) _ l.invariant.0 l.q _ e _ f.row,
      more_on 128 word_more (all_again (view a.s.now) a.p) _ (items l.wire) _ l.invariant.1 l.q _ e _ f.words,
    )

pub returns : goal.returns
returns c =
    let a = c.args in
    let l = c.loop-q in
    let e = range_past 13 l.q (omega arith) in
    record {
      row = more_end 128 one_more (all_again (view a.s.now) a.p) _ (packets l.wire) _ l.invariant.0 e;
      words = more_end 128 word_more (all_again (view a.s.now) a.p) _ (items l.wire) _ l.invariant.1 e;
    }
