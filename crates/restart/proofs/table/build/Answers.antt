-- `build` is three walks, each from the table that the one before left, and the messages that fill.
use Rattle.std.proofs.lemmas.Result.{err_from_is_err_and}
use Rattle.restart.specs.{Built.{build_stop, build_stop_2, build_stop_3, build_all}, Words.{packed_none, packed_words}}
use Rattle.restart.proofs.table.build.Goals as goal

pub returns-in_err-from_copy : goal.returns-in_err-from_copy
returns-in_err-from_copy c =
    let a = c.args in
    let f = c.in_err-from_copy.ensures in
    let r = err_from_is_err_and c.from_residual.result c.from_residual.ensures.1 in
    rw r.1 (record {
      row = build_stop a.s.now a.p a.c c.requires.0 c.requires.1 _ c.height-h.ensures a.row.now c.told-row _ f.row;
      words = packed_words _ (f.words (packed_none a.row.now c.told-row));
    })

pub returns-in_err-from_logs : goal.returns-in_err-from_logs
returns-in_err-from_logs c =
    let a = c.args in
    let f = c.in_ok-from_copy.ensures in
    let g = c.in_err-from_logs.ensures in
    let r = err_from_is_err_and c.from_residual-in_err-from_logs.result c.from_residual-in_err-from_logs.ensures.1 in
    rw r.1 (record {
      row = build_stop_2 a.s.now a.p a.c c.requires.0 c.requires.1 _ c.height-h.ensures a.row.now c.told-row _ f.row _ g.row;
      words = packed_words _ (g.words (f.words (packed_none a.row.now c.told-row)));
    })

pub returns-in_err-from_notes : goal.returns-in_err-from_notes
returns-in_err-from_notes c =
    let a = c.args in
    let f = c.in_ok-from_copy.ensures in
    let g = c.in_ok-from_logs.ensures in
    let n = c.in_err-from_notes.ensures in
    let r = err_from_is_err_and c.from_residual-in_err-from_notes.result c.from_residual-in_err-from_notes.ensures.1 in
    rw r.1 (record {
      row = build_stop_3 a.s.now a.p a.c c.requires.0 c.requires.1 _ c.height-h.ensures a.row.now c.told-row _ f.row _ g.row _ n.row;
      words = packed_words _ (n.words (g.words (f.words (packed_none a.row.now c.told-row))));
    })

pub returns : goal.returns
returns c =
    let a = c.args in
    let f = c.in_ok-from_copy.ensures in
    let g = c.in_ok-from_logs.ensures in
    let n = c.in_ok-from_notes.ensures in
    let z = c.fill_all.ensures in record {
      row = build_all a.s.now a.p a.c c.requires.0 c.requires.1 _ c.height-h.ensures a.row.now c.told-row _ f.row _ g.row _ n.row _ z.row;
      words = packed_words _ (z.words (n.words (g.words (f.words (packed_none a.row.now c.told-row)))));
    }
