use Rattle.std.proofs.Common.{◌≡◌, get_or, ap, arith}
use Rattle.words.specs.Rows.{row_length}
use Rattle.words.proofs.count.Goals as goal

pub returns-in-Some-clause-is : goal.returns-in-Some-clause-is
returns-in-Some-clause-is c =
    let split = c.in-Some.ensures.cases in
    let first : get_or c.args.ws.now 0 0 ≡ c.in-Some.field-0-0.now = ap (λ ws. get_or ws 0 0) split.0 in
    omega (arith, row_length c.args.ws.now)

pub returns-in-None-clause-is : goal.returns-in-None-clause-is
returns-in-None-clause-is c = let none = c.in-None.ensures.cases in omega (arith, none, row_length c.args.ws.now)
