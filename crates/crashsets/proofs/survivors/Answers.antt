-- `survivors`: what the first line gets, if there is one.
use Rattle.std.proofs.Common.{sym, ◌∙◌, arith, length-take-le, eqb-true}
use Rattle.std.proofs.lemmas.Bool.{eqb-false}
use Rattle.lines.specs.LineEnd.{line_end_le}
use Rattle.crashsets.specs.First.{empty_input, some_input}
use Rattle.crashsets.proofs.survivors.Goals as goal

pub returns-then-is_empty-clause-wrote : goal.returns-then-is_empty-clause-wrote
returns-then-is_empty-clause-wrote c = empty_input _ _ (eqb-true _ 0 (sym c.is_empty.ensures ∙ c.if-is_empty.true))

pub slice_bounds-write_report-end : goal.slice_bounds-write_report-end
slice_bounds-write_report-end c =
    let i = c.args.input.now in
    sym (length-take-le c.line_end-end.result i (omega (arith, c.line_end-end.ensures, line_end_le i)))

pub returns-clause-wrote : goal.returns-clause-wrote
returns-clause-wrote c =
    some_input _ (eqb-false _ 0 (sym c.is_empty.ensures ∙ c.if-is_empty.false)) _ c.line_end-end.ensures _ _ _ c.write_report.ensures
