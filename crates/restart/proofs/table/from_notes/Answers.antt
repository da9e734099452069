-- `from_notes` enters the notes. The loop: the notes not yet passed are still to be entered.
use Rattle.std.specs.Prelude.{◌≡◌, []}
use Rattle.std.proofs.Common.{arith, eq-eqb, ne_eqb, lt-ltb, le-ltb, rules}
use Rattle.std.proofs.lemmas.Result.{err_from_is_err_and}
use Rattle.restart.specs.{Gather.{chosen, next_item, no_item}, Limited.{more_end, more_skip, more_on, more_stop}, Tables.{entering_one}, Sources.noted}
use Rattle.restart.specs.Words.{packed_enter}
use Rattle.protocol.specs.Restart.{enter, ticket_of_note, is_note_above}
use Rattle.tickets.specs.Table.{entries}
use Rattle.notelist.specs.{Notes.{notes, note_of}, Fits.word_fits}
use Rattle.restart.proofs.table.from_notes.Goals as goal
use Rattle.restart.proofs.table.from_notes.Goals.{then-x-c+then-h-x+in_ok-enter_once, else-x-c, else-x-c-via-then-x-c+else-h-x, else-x-c-via-else-x-c}

pub returns-in_err-enter_once : goal.returns-in_err-enter_once
unfolding noted ticket_of_note chosen is_note_above notes
returns-in_err-enter_once c =
    let a = c.args in
    let l = c.loop-w in
    let x = c.unpack-x in
    let e = c.in_err-enter_once.ensures in
    let p = err_from_is_err_and c.from_residual.result c.from_residual.ensures.1 in
    rw p.1 (record {
      row = more_stop 16 enter (noted a.c a.h) _ (entries l.row) _ l.invariant.0
          x.result _ (next_item note_of _ _ c.items-w-items.ensures l.w-index x.result x.ensures (omega arith))
          _ (rw (eq-eqb x.result.receiver a.c (search rules), lt-ltb a.h x.result.tn (search rules))
          (entering_one l.row _ x.result.sender _ _ _ (search rules) (rw x.ensures (word_fits _).sender) e));
      words = λ h. packed_enter e (l.invariant.1 h);
    })

pub loop-w-preserved : goal.loop-w-preserved
unfolding noted ticket_of_note chosen is_note_above notes
loop-w-preserved c =
    let a = c.args in
    let l = c.loop-w in
    let x = c.unpack-x in
    let step = next_item note_of _ _ c.items-w-items.ensures l.w-index x.result x.ensures (omega arith) in
    elim c.if-x-c.branch [
      | then-x-c+then-h-x+in_ok-enter_once w ↦
          let e = w.in_ok-enter_once.ensures in
          rw w.row-is (
            more_on 16 enter (noted a.c a.h) _ (entries l.row) _ l.invariant.0 x.result _ step
                _ (rw (eq-eqb x.result.receiver a.c (search rules), lt-ltb a.h x.result.tn (search rules))
                (entering_one l.row _ x.result.sender _ _ _ (search rules) (rw x.ensures (word_fits _).sender) e)),
            λ h. packed_enter e (l.invariant.1 h),
          )
      | else-x-c w ↦
          let none : noted a.c a.h x.result ≡ [] = elim w.else-x-c.branch [
            | else-x-c-via-then-x-c+else-h-x v ↦ rw (eq-eqb x.result.receiver a.c (search rules), le-ltb a.h x.result.tn (search rules))
            | else-x-c-via-else-x-c v ↦ rw (ne_eqb x.result.receiver a.c (search rules))
          ] in
          rw w.row-is (more_skip 16 enter (noted a.c a.h) _ (entries l.row) _ l.invariant.0 x.result _ step none, l.invariant.1)
    ]

pub returns : goal.returns
unfolding notes
returns c =
    let a = c.args in
    let l = c.loop-w in
    record {
      row = more_end 16 enter (noted a.c a.h) _ (entries l.row) _ l.invariant.0 (no_item note_of _ _ c.items-w-items.ensures l.w-index c.loop-w-test.false);
      words = l.invariant.1;
    }
