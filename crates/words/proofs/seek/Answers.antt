use Rattle.std.proofs.Common.{rules}
use borrow.Author.Tests.{tests}
use Rattle.std.proofs.lemmas.Iterator.{YieldsList-from_slice}
use Rattle.std.proofs.lemmas.Iterator.Search.{position_from_yields_List}
use Rattle.words.specs.Rows.{row, named}
use Rattle.words.specs.Seek.{position_place}
use Rattle.words.proofs.seek.Goals as goal

pub returns-clause-is : goal.returns-clause-is
unfolding named
returns-clause-is c =
    position_place (named c.args.peer c.args.sn) (row c.args.ws.now)
    (position_from_yields_List (named c.args.peer c.args.sn) _ _ _ c.position.ensures.ran (YieldsList-from_slice (row c.args.ws.now) (cc)) (λ x b q k. search (rules, tests)))
