-- `checkpoint::checkpoint` meets its contract: refused, or fixed, held and cleaned.
use Rattle.std.specs.Prelude.{refl}
use Rattle.std.proofs.Common.{arith}
use Rattle.std.proofs.lemmas.Result.{err_from_is_err_and}
use Rattle.arrays.specs.ArrayMap.{as_map}
use Rattle.protocol.specs.{Numbers.number_not_zero, Questions.{checkpoint_questions, is_machine}}
use Rattle.store.specs.{Framing.{refused, accepted, machine_in}, View.{view, tried}}
use Rattle.checkpoint.specs.Parts.{checkpoint_is}
use Rattle.checkpoint.proofs.checkpoint.Goals as goal

pub returns-in_err-judge : goal.returns-in_err-judge
unfolding tried
returns-in_err-judge c =
    let p = err_from_is_err_and c.from_residual.result c.from_residual.ensures.1 in
    rw (p.1, p.2) (refused c.args.s.now _ _ c.in_err-judge.ensures _ (number_not_zero c.in_err-judge.field-0.0))

pub hold-requires : goal.hold-requires
unfolding checkpoint_questions is_machine view
hold-requires c =
    let h = machine_in c.args.s.now c.args.p 0 _ _ _ _ c.in_ok-judge.ensures refl refl in
    omega arith

pub returns : goal.returns
unfolding checkpoint_questions
returns c =
    accepted c.args.s.now _ 0 c.in_ok-judge.ensures refl c.clean.new.s _ refl
    (checkpoint_is _ (view c.fix.new.s) (view c.hold.new.s) _ c.args.p (as_map 0 c.limits-l.result) c.fix.ensures c.hold.ensures c.limits-l.ensures c.clean.ensures)
