-- `fill_from` fills from a log. The loop: the messages not yet passed still fill.
use Rattle.std.specs.Prelude.{◌<◌}
use Rattle.std.proofs.Common.{sym, ◌∙◌, arith, mod-eq_of_lt}
use Rattle.restart.specs.{Gather.{next_item, no_item}, Fills.filling}
use Rattle.restart.specs.Words.{packed_change}
use Rattle.lists.specs.Lists.{keep}
use Rattle.protocol.specs.{Tickets.fill, Restart.fill_all}
use Rattle.logs.specs.{Log.{entries as messages, logged_of}, Fits.word_fits}
use Rattle.restart.proofs.table.fill_from.Goals as goal
use Rattle.restart.proofs.table.fill_from.Goals.{then-is_above, else-is_above}

pub loop-w-preserved : goal.loop-w-preserved
unfolding filling keep fill_all messages
loop-w-preserved c =
    let a = c.args in
    let l = c.loop-w in
    let x = c.unpack-x in
    let step = next_item logged_of _ _ c.items-w-items.ensures l.w-index x.result x.ensures (omega arith) in
    elim c.if-is_above.branch [
      | then-is_above w ↦
          let above = sym c.is_above.ensures ∙ w.if-is_above.true in
          let small : x.result.message.hops < 8 = rw x.ensures (word_fits _).hops in
          rw w.row-is (
            l.invariant.0 ∙ rw (step, above, w.fill.ensures.row.items, mod-eq_of_lt small),
            λ h. packed_change l.row w.fill.new.ws _ (fill _ _) w.fill.ensures.words (l.invariant.1 h),
          )
      | else-is_above w ↦ let below = sym c.is_above.ensures ∙ w.if-is_above.false in rw w.row-is (l.invariant.0 ∙ rw (step, below), l.invariant.1)
    ]

pub returns : goal.returns
unfolding filling keep fill_all messages
returns c =
    let a = c.args in
    let l = c.loop-w in
    record {
      row = sym (l.invariant.0 ∙ rw (no_item logged_of _ _ c.items-w-items.ensures l.w-index c.loop-w-test.false));
      words = l.invariant.1;
    }
