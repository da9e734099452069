use Rattle.notelist.specs.Notes.{note_of, as_note}
use Rattle.notelist.proofs.unpack.Goals as goal

pub returns : goal.returns
returns c = unfold note_of as_note in rw c.unpack-x.ensures
