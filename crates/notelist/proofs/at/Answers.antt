use Rattle.std.proofs.Common.{sym, ap, ◌∙◌}
use Rattle.std.proofs.Math.ListN.{get_or-map as List·getD-map}
use Rattle.words.specs.Rows.{row}
use Rattle.notelist.specs.Notes.{note_of, notes}
use Rattle.notelist.proofs.at.Goals as goal

pub returns : goal.returns
unfolding notes
returns c = c.unpack.ensures ∙ ap note_of c.read.ensures ∙ sym (List·getD-map note_of (row _) _ 0)
