-- `restart` refuses before the store is changed, or changes it.
use Rattle.std.specs.Prelude.{◌≡◌, true, false, is_ok}
use Rattle.std.proofs.Common.{arith, rules}
use Rattle.std.proofs.lemmas.Result.{err_from_is_err_and}
use Rattle.protocol.specs.Numbers.{number, number_not_zero}
use Rattle.protocol.specs.declared.Refusal.TheVariants.{TableFull, WireFull}
use Rattle.restart.specs.Whole.{refuse_first, machine, refuse_tables, refuse_wire, accept}
use Rattle.restart.proofs.restart.Goals as goal

pub returns-in_err-judge : goal.returns-in_err-judge
returns-in_err-judge c =
    let a = c.args in
    let r = err_from_is_err_and c.from_residual.result c.from_residual.ensures.1 in
    rw (r.1, r.2) (refuse_first a.s.now c.told-s a.p (number c.in_err-judge.field-0.0) c.in_err-judge.ensures (number_not_zero c.in_err-judge.field-0.0))

pub tables-requires : goal.tables-requires
tables-requires c =
    let m = machine c.args.s.now c.told-s c.args.p c.in_ok-judge.ensures in
    omega arith

pub returns-in_err-map_err : goal.returns-in_err-map_err
returns-in_err-map_err c =
    let a = c.args in
    let full : c.in_err-map_err.field-0.0 ≡ TableFull = search rules in
    let k : is_ok c.tables.result ≡ false = search rules in
    let r = err_from_is_err_and c.from_residual-in_err-map_err.result c.from_residual-in_err-map_err.ensures.1 in
    rw (r.1, r.2, full) (refuse_tables a.s.now c.told-s a.p c.in_ok-judge.ensures _ (rw k at c.tables.ensures))

pub resend_all-requires : goal.resend_all-requires
resend_all-requires c = (machine c.args.s.now c.told-s c.args.p c.in_ok-judge.ensures).0

pub returns-in_err-map_err-2 : goal.returns-in_err-map_err-2
returns-in_err-map_err-2 c =
    let a = c.args in
    let full : c.in_err-map_err-2.field-0.0 ≡ WireFull = search rules in
    let k : is_ok c.tables.result ≡ true = search rules in
    let m : is_ok c.resend_all.result ≡ false = search rules in
    let r = err_from_is_err_and c.from_residual-in_err-map_err-2.result c.from_residual-in_err-map_err-2.ensures.1 in
    rw (r.1, r.2, full) (refuse_wire a.s.now c.told-s a.p c.in_ok-judge.ensures _ (rw k at c.tables.ensures)
    _ _ _ c.copy_from_slice.ensures.after (search rules) c.after_restart.ensures.row.items (rw m at c.resend_all.ensures.row))

pub change-requires : goal.change-requires
change-requires c = machine c.args.s.now c.told-s c.args.p c.in_ok-judge.ensures

pub returns : goal.returns
returns c =
    let a = c.args in
    let k : is_ok c.tables.result ≡ true = search rules in
    let m : is_ok c.resend_all.result ≡ true = search rules in
    accept a.s.now c.told-s a.p c.in_ok-judge.ensures _ (rw k at c.tables.ensures)
    _ _ _ c.copy_from_slice.ensures.after (search rules) c.after_restart.ensures.row.items (rw m at c.resend_all.ensures.row)
    _ c.change.ensures
