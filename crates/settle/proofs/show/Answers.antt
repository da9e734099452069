-- `settle::show` meets its contract: refused by the first "no", or what the memory says.
use Rattle.std.specs.Prelude.{◌≡◌, refl, ◌+◌, ◌-◌}
use Rattle.std.proofs.Common.{arith, rules}
use Rattle.std.proofs.lemmas.Result.{err_from_is_err_and}
use Rattle.protocol.specs.Numbers.{number_not_zero}
use Rattle.memory.specs.Places.{MEMORY}
use Rattle.store.specs.Places.{live_from}
use Rattle.settle.specs.Shown.{show_refused, chare_in, show_done}
use Rattle.settle.proofs.show.Goals as goal

pub returns-in_err-judge_chare-clause-shown : goal.returns-in_err-judge_chare-clause-shown
returns-in_err-judge_chare-clause-shown c =
    let p = err_from_is_err_and c.from_residual.result c.from_residual.ensures.1 in
    rw (p.1, p.2) (show_refused _ _ _ c.in_err-judge_chare.ensures (number_not_zero c.in_err-judge_chare.field-0.0))

pub slice_bounds-m-end : goal.slice_bounds-m-end
slice_bounds-m-end c =
    let h = chare_in c.args.s.now _ 0 c.in_ok-judge_chare.ensures refl in
    search rules

pub returns-clause-shown : goal.returns-clause-shown
returns-clause-shown c =
    let a = c.args.c in
    let long : (live_from a + MEMORY) - live_from a ≡ MEMORY = omega arith in
    show_done c.args.s.now _ 0 c.in_ok-judge_chare.ensures refl _ _ (rw long at c.height.ensures) (rw long at c.state.ensures)
