use Rattle.std.specs.Prelude.{refl}
use Rattle.std.proofs.Common.{arith}
use Rattle.words.specs.Becomes.{becomes_same, becomes_mapped, beside_same, beside_cut}
use Rattle.item.specs.Held.{held_end}
use Rattle.notelist.specs.Notes.{note_of, notes}
use Rattle.notelist.proofs.empty.Goals as goal

pub returns-then-count-gt0 : goal.returns-then-count-gt0
unfolding notes
returns-then-count-gt0 c = becomes_mapped note_of (beside_cut 0 _ _ refl (omega arith) (beside_same 0 _)) refl

pub returns-else-count-gt0 : goal.returns-else-count-gt0
unfolding notes
returns-else-count-gt0 c = becomes_same notes _ (held_end note_of _ 0 (omega arith))
