-- `frames::is_hexadecimal` meets its contract: an even length, and digits only.
use Rattle.std.specs.Prelude.{◌≡◌, refl, ◌∷◌, [], List, ℕ}
use Rattle.std.specs.List.{list_all}
use Rattle.std.proofs.Common.{◌∙◌, rules, eq-eqb, ne_eqb}
use Rattle.std.proofs.lemmas.Iterator.{YieldsList-from_slice}
use Rattle.std.proofs.lemmas.Iterator.Search.{all_from_yields_List}
use borrow.Author.Tests.{tests}
use Rattle.lists.specs.Lists.{allb}
use Rattle.frames.specs.Decode.{is_digit, is_hexadecimal}
use Rattle.frames.proofs.is_hexadecimal.Goals as goal

all_judged : (l : List ℕ) → list_all is_digit l ≡ allb is_digit l
unfolding allb
all_judged [] = refl
all_judged (x ∷ l) = rw (all_judged l)

pub returns-then-line-eq0 : goal.returns-then-line-eq0
unfolding is_hexadecimal
returns-then-line-eq0 c =
    all_from_yields_List is_digit _ _ _ c.all.ensures.ran (YieldsList-from_slice c.args.line.now cc) (λ x b q k. search (rules, tests))
    ∙ rw (all_judged c.args.line.now, eq-eqb _ _ c.if-line-eq0.true)

pub returns-else-line-eq0 : goal.returns-else-line-eq0
unfolding is_hexadecimal
returns-else-line-eq0 c = rw (ne_eqb _ _ c.if-line-eq0.false)
