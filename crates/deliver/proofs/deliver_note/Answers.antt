-- `deliver_note`: the list for the receiver's machine, then the wire.
use Rattle.std.specs.Prelude.{◌≡◌, ℕ, ◌+◌, ◌-◌}
use Rattle.std.proofs.Common.{arith}
use Rattle.std.proofs.lemmas.Result.{err_from_is_err_and}
use Rattle.store.specs.Places.{NOTELIST, notes_from}
use Rattle.deliver.specs.InPlace.{note_refused, note_done}
use Rattle.deliver.proofs.deliver_note.Goals as goal

-- a list as long as the difference of its ends
list_length : (h : ℕ) → (notes_from h + NOTELIST) - notes_from h ≡ NOTELIST
list_length h = omega arith

pub returns-in_err-note : goal.returns-in_err-note
returns-in_err-note c =
    let a = c.args in
    let p = err_from_is_err_and c.from_residual.result c.from_residual.ensures.1 in
    let e = list_length c.home-h.result in
    rw (p.1, p.2, e) (note_refused a.s.now c.told-s a.at a.p c.requires a.tn c.home-h.result c.home-h.ensures.is (omega (arith, c.home-h.ensures.small))
    c.note.new.ws (omega arith) (rw e at c.note.ensures.row) c.in_err-note.was)

pub returns : goal.returns
returns c =
    let a = c.args in
    let e = list_length c.home-h.result in
    rw e (note_done a.s.now c.told-s a.at a.p c.requires a.tn c.home-h.result c.home-h.ensures.is (omega (arith, c.home-h.ensures.small))
    c.note.new.ws (omega arith) (rw e at c.note.ensures.row) c.in_ok-note.was c.answer.new.ws (omega arith) (rw e at c.answer.ensures.on.items))
