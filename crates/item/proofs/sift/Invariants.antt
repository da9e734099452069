use Rattle.std.proofs.Common.{Bool, ◌≤◌}
use Rattle.words.specs.Sift.{Sifting}
use Rattle.item.specs.{declared.Item.{Item}, Item.{item_of}, Sifts.{Sifts}}
use Rattle.item.proofs.sift.Given as goal

abbrev pub invariant-loop-i : goal.invariant-loop-i
invariant-loop-i g l =
    (l.k ≤ l.i)
    × ((stays : Item → Bool) (becomes : Item → Item) → Sifts stays becomes (goal.F-post g l.answer) → Sifting item_of stays becomes l.initial.ws l.n l.ws l.i l.k)
