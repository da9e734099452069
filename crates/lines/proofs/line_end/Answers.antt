-- `lines::line_end` counts the bytes before the first newline.
use Rattle.std.specs.Prelude.{eqb}
use Rattle.std.proofs.Common.{arith, rules}
use Rattle.std.proofs.lemmas.Bool.Decides.{nat_tests}
use Rattle.std.proofs.lemmas.Iterator.{YieldsList-from_slice}
use Rattle.std.proofs.lemmas.Iterator.Search.{position_from_yields_List}
use borrow.Author.Tests.{tests}
use Rattle.protocol.specs.Lines.{newline}
use Rattle.lines.specs.LineEnd.{line_end_le, line_end_position}
use Rattle.lines.proofs.line_end.Goals as goal

pub returns : goal.returns
returns c =
    let i = c.args.input.now in
    let h = position_from_yields_List (λ b. eqb b newline) _ _ c.position.result c.position.ensures.ran (YieldsList-from_slice i cc) (λ x b q k. search (rules, tests)) in
    let p = line_end_position i in
    let l = line_end_le i in
    grind (arith, nat_tests)
