use Rattle.std.proofs.Common.{sym, ◌∙◌}
use Rattle.std.proofs.lemmas.List.{length-map}
use Rattle.words.specs.Rows.{row}
use Rattle.notelist.specs.Notes.{note_of, notes}
use Rattle.notelist.proofs.count.Goals as goal

pub returns : goal.returns
unfolding notes
returns c = c.count.ensures.is ∙ sym (length-map (row _) note_of)
