-- Tickets entered one by one into a table of 16, where there was room for them all.
use Rattle.std.specs.Prelude.{◌≡◌, refl, Bool, true, List, [], ◌∷◌, ℕ, ◌-◌, ◌%◌, ◌<◌, ◌≤◌, length}
use Rattle.std.proofs.Common.{arith, mod-eq_of_lt, length-append}
use Rattle.std.proofs.Math.Option.{Option}
use Rattle.lists.specs.{Tests.either, Lists.anyb}
use Rattle.protocol.specs.{declared.Entry.Entry, Tickets.{for_message, unreceived}, Restart.{enter, enter_all}}
use Rattle.memory.specs.Places.{ROW}
use Rattle.tickets.specs.Table.{entries, Entering}
use Rattle.restart.specs.Limited.{held, limit, one, more, more_limit}

abbrev pub entering : List Entry → List Entry → Option (List Entry)
entering l es = more 16 enter (held true l) es

pub entering_one : (ws out : List ℕ) (s n tn : ℕ) (r : Bool) → length ws ≡ ROW → s < 16 → Entering ws (s % 16) n tn out r → held r (entries out) ≡ entering (entries ws) (unreceived s n tn ∷ [])
unfolding more one limit held
entering_one ws out s n tn r size small e =
    let room : length ws - 1 ≡ 16 = omega arith in
    let fits = rw (room, mod-eq_of_lt small) at e.fits in
    rw (e.table.items, mod-eq_of_lt small, ← fits) (either r (λ q. rw q) (λ q. rw q))

enter_grows : (l : List Entry) (e : Entry) → length l ≤ length (enter l e)
unfolding enter
enter_grows l e = either (anyb (for_message e.sender e.sn) l)
    (λ f. rw f (omega arith))
    (λ f. rw f (omega (arith, length-append l (e ∷ []))))

pub entering_all : (l es : List Entry) → length l ≤ 16 → entering l es ≡ limit 16 (enter_all l es)
unfolding enter_all
entering_all = more_limit 16 enter enter_all (λ l. refl) (λ l e es. refl) enter_grows
