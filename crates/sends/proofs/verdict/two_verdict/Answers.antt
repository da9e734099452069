use Rattle.std.specs.Prelude.{◌≡◌, ◌&&◌}
use Rattle.std.proofs.Common.{sym, ◌∙◌, arith}
use Rattle.sends.specs.{Sends.two_verdict, Ticket.fits, Room.growth_top}
use Rattle.sends.proofs.verdict.two_verdict.Goals as goal
use Rattle.sends.proofs.verdict.two_verdict.Goals.{then-fits, else-fits, then-p, else-p, then-p-2, else-p-2}

pub overflow_add-wire : goal.overflow_add-wire
overflow_add-wire c = omega (arith, c.growth.ensures, growth_top c.args.p.ticket)

pub overflow_add-wire-2 : goal.overflow_add-wire-2
overflow_add-wire-2 c =
    omega (arith, c.growth.ensures, growth_top c.args.p.ticket, c.growth-2.ensures, growth_top c.args.q.ticket)

pub returns : goal.returns
unfolding two_verdict
returns c =
    let a = c.args in
    let f : c.if-fits.answer ≡ (fits a.p.ticket && fits a.q.ticket) = elim c.if-fits.branch [
      | then-fits w ↦ rw (w.answer-is, w.fits-then-fits.ensures, sym c.fits.ensures ∙ w.if-fits.true)
      | else-fits w ↦ rw (w.answer-is, c.fits.ensures, sym c.fits.ensures ∙ w.if-fits.false)
    ] in
    let p : c.if-p.answer ≡ (a.p.admits && a.q.admits) = elim c.if-p.branch [
      | then-p w ↦ rw (w.answer-is, w.if-p.true)
      | else-p w ↦ rw (w.answer-is, w.if-p.false)
    ] in
    let q : c.if-p-2.answer ≡ (a.p.room && a.q.room) = elim c.if-p-2.branch [
      | then-p-2 w ↦ rw (w.answer-is, w.if-p-2.true)
      | else-p-2 w ↦ rw (w.answer-is, w.if-p-2.false)
    ] in
    c.answer.ensures ∙ rw (f, p, q, c.growth.ensures, c.growth-2.ensures)
