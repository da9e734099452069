use Rattle.std.specs.Prelude.{◌≡◌, ◌≢◌, true, refl}
use Rattle.sends.specs.{declared.ticket.Ticket.Ticket, declared.ticket.Ticket.TheVariants.{Remote, Found, New, TooHigh}, Ticket.fits}
use Rattle.sends.proofs.ticket.Ticket.fits.Goals as goal
use Rattle.sends.proofs.ticket.Ticket.fits.Goals.{in-TooHigh, in_default}

fitting : (k : Ticket) → k ≢ TooHigh → true ≡ fits k
unfolding fits
fitting Remote h = refl
fitting (Found t) h = refl
fitting (New t) h = refl
fitting TooHigh h = absurd (h refl)

pub returns : goal.returns
returns c =
    elim c.match-matches.branch [
      | in-TooHigh w ↦ unfold fits in rw (w.matches-is, w.in-TooHigh.is)
      | in_default w ↦ rw w.matches-is (fitting c.args.self w.in_default.not-TooHigh)
    ]
