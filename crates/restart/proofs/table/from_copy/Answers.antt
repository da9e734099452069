-- `from_copy` enters the tickets of a copy. The loop: the items not yet passed are still to be entered.
use Rattle.std.proofs.Common.{arith, rules}
use Rattle.std.proofs.lemmas.Result.{err_from_is_err_and}
use Rattle.restart.specs.{Gather.{next_item, no_item}, Limited.{more_end, more_on, more_stop}, Tables.{entering_one}, Sources.copied}
use Rattle.restart.specs.Words.{packed_enter}
use Rattle.protocol.specs.Restart.{enter, ticket_of_entry}
use Rattle.tickets.specs.{Table.{entries, entry_of}, EntryLaws.sender_small}
use Rattle.restart.proofs.table.from_copy.Goals as goal

pub returns-in_err-enter_once : goal.returns-in_err-enter_once
unfolding copied ticket_of_entry entries
returns-in_err-enter_once c =
    let l = c.loop-w in
    let x = c.unpack-e in
    let e = c.in_err-enter_once.ensures in
    let p = err_from_is_err_and c.from_residual.result c.from_residual.ensures.1 in
    rw p.1 (record {
      row = more_stop 16 enter copied _ (entries l.row) _ l.invariant.0
          x.result _ (next_item entry_of _ _ c.items-w-items.ensures l.w-index x.result x.ensures (omega arith))
          _ (entering_one l.row _ x.result.sender _ _ _ (search rules) (rw x.ensures (sender_small _)) e);
      words = λ h. packed_enter e (l.invariant.1 h);
    })

pub loop-w-preserved : goal.loop-w-preserved
unfolding copied ticket_of_entry entries
loop-w-preserved c =
    let l = c.loop-w in
    let x = c.unpack-e in
    let e = c.in_ok-enter_once.ensures in (
      more_on 16 enter copied _ (entries l.row) _ l.invariant.0
          x.result _ (next_item entry_of _ _ c.items-w-items.ensures l.w-index x.result x.ensures (omega arith))
          _ (entering_one l.row _ x.result.sender _ _ _ (search rules) (rw x.ensures (sender_small _)) e),
      λ h. packed_enter e (l.invariant.1 h),
    )

pub returns : goal.returns
unfolding entries
returns c =
    let l = c.loop-w in record {
      row = more_end 16 enter copied _ (entries l.row) _ l.invariant.0 (no_item entry_of _ _ c.items-w-items.ensures l.w-index c.loop-w-test.false);
      words = l.invariant.1;
    }
