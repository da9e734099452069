-- `crash::crash` meets its contract: refused, lost without cover, or down.
use Rattle.std.specs.Prelude.{refl}
use Rattle.std.proofs.Common.{arith}
use Rattle.std.proofs.lemmas.Result.{err_from_is_err_and}
use Rattle.protocol.specs.{Numbers.number_not_zero, Questions.{crash_questions, is_machine}}
use Rattle.store.specs.{Framing.{refused, machine_in}, View.view}
use Rattle.crash.specs.Whole.{covered, uncovered}
use Rattle.crash.proofs.crash.Goals as goal

pub returns-in_err-judge : goal.returns-in_err-judge
returns-in_err-judge c =
    let p = err_from_is_err_and c.from_residual.result c.from_residual.ensures.1 in
    let e = c.in_err-judge.field-0.0 in
    rw (p.1, p.2) (record { framed = refused c.args.s.now _ _ c.in_err-judge.ensures _ (number_not_zero e); ok = tt })

pub returns-then-not-has_cover : goal.returns-then-not-has_cover
returns-then-not-has_cover c =
    record { framed = uncovered c.args.s.now c.args.p c.in_ok-judge.ensures _ c.has_cover.ensures c.if-not-has_cover.true c.told-s; ok = λ n e. cc }

pub go_down-requires : goal.go_down-requires
unfolding crash_questions is_machine view
go_down-requires c =
    let h = machine_in c.args.s.now c.args.p 0 _ _ _ _ c.in_ok-judge.ensures refl refl in
    omega arith

pub returns : goal.returns
returns c =
    record { framed = covered c.args.s.now c.args.p c.in_ok-judge.ensures _ c.has_cover.ensures c.if-not-has_cover.false c.go_down.new.s c.go_down.ensures; ok = λ n e. cc }
