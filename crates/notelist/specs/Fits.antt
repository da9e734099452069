-- What a note list holds fits a word: chares below 16, SN and TN below 65536.
use Rattle.std.specs.Prelude.{◌≡◌, ℕ, ◌<◌}
use Rattle.std.proofs.Common.{arith, mod-eq_of_lt}
use Rattle.protocol.specs.declared.Note.{Note}
use Rattle.item.specs.Item.{item_of}
use Rattle.notelist.specs.Notes.{note_of, as_note, fitted}

pub record Fits (x : Note) : Type 0 where
  pub sender : x.sender < 16
  pub receiver : x.receiver < 16
  pub sn : x.sn < 65536
  pub tn : x.tn < 65536

-- what fits, a word holds as it is
pub fitted_same : (x : Note) → x.sender < 16 → x.receiver < 16 → fitted x ≡ x
unfolding fitted
fitted_same x s r = rw (mod-eq_of_lt s, mod-eq_of_lt r)

pub word_fits : (w : ℕ) → Fits (note_of w)
unfolding note_of as_note item_of
word_fits w = record { sender = omega arith; receiver = omega arith; sn = omega arith; tn = omega arith }
