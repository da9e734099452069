use Rattle.std.proofs.Common.{◌∙◌, arith, rules, tests}
use Rattle.std.proofs.lemmas.Iterator.{YieldsList-from_slice}
use Rattle.std.proofs.lemmas.Iterator.Search.{any_from_yields_List}
use Rattle.item.specs.Item.{owner_small, peer_small}
use Rattle.notelist.specs.Same.{differs, asked, asked_any, nowhere}
use Rattle.notelist.proofs.has.Goals as goal

pub returns-then-x-ge16 : goal.returns-then-x-ge16
returns-then-x-ge16 c = nowhere _ _ (λ w. differs _ w (λ s r n t. omega (arith, peer_small w, owner_small w)))

pub returns : goal.returns
returns c =
    any_from_yields_List (asked c.args.x) _ _ _ c.any.ensures.ran (YieldsList-from_slice c.items.result.now (cc)) (λ x b q k. search (rules, tests))
    ∙ asked_any c.args.x (search rules) (omega arith) (omega arith) _ _ c.items.ensures
