use Rattle.std.specs.Prelude.{◌≡◌}
use Rattle.std.proofs.Common.{arith, sym, ap, ◌∙◌}
use Rattle.std.proofs.lemmas.Result.{err_from_is_err_and}
use Rattle.store.specs.ViewLaws.{span}
use Rattle.sends.specs.WorkFrame.{frame_refused, index, next_fits, nothing_next, next_worked}
use Rattle.lists.specs.Options.{maybe}
use Rattle.protocol.specs.Numbers.{number, number_not_zero, refusal_of}
use Rattle.sends.proofs.work.Goals as goal

pub returns-in_err-judge_chare : goal.returns-in_err-judge_chare
returns-in_err-judge_chare c =
    let a = c.args in
    let p = err_from_is_err_and c.from_residual.result c.from_residual.ensures.1 in
    rw (p.1, p.2) (frame_refused a.s.now a.chare _ c.in_err-judge_chare.ensures (number_not_zero _))

pub slice_bounds-next_entry-end : goal.slice_bounds-next_entry-end
slice_bounds-next_entry-end c = let h = index c.args.s.now c.args.chare c.in_ok-judge_chare.ensures in omega arith

pub returns-in_err-e : goal.returns-in_err-e
returns-in_err-e c =
    let a = c.args in
    let p = err_from_is_err_and c.from_residual-in_err-e.result c.from_residual-in_err-e.ensures.1 in
    let n : number c.in_err-e.field-0.0 ≡ 6 = ap refusal_of c.in_err-e.ensures.value ∙ rw c.in_err-e.ensures.ok_part in
    rw (p.1, p.2, n)
    (nothing_next a.s.now a.chare c.in_ok-judge_chare.ensures (rw (span a.chare) at (sym c.next_entry.ensures ∙ ap maybe c.in_err-e.ensures.ok_part)))

pub work_at-requires : goal.work_at-requires
work_at-requires c =
    let a = c.args in
    let f = next_fits _ _ (sym c.next_entry.ensures ∙ ap maybe c.in_ok-e.ensures.ok_part) in
    (index a.s.now a.chare c.in_ok-judge_chare.ensures, f.0, f.1)

pub returns : goal.returns
returns c =
    let a = c.args in
    next_worked a.s.now a.chare c.in_ok-judge_chare.ensures _ (rw (span a.chare) at (sym c.next_entry.ensures ∙ ap maybe c.in_ok-e.ensures.ok_part)) _ _ c.work_at.ensures
