-- The counts that a caller in C gets, and what its buffer then holds.
use Rattle.std.specs.Prelude.{true, false, cond, List, [], ◌++◌, ◌≡◌, ℕ, ◌≤◌, ◌<◌, leb, length, take, drop, Result, is_ok}
use Rattle.std.proofs.Common.{sym, ap, ◌∙◌, arith, le-leb, append_assoc, length-take-le, take-append-drop}
use Rattle.std.proofs.lemmas.List.{drop-append-le}
use Rattle.std.proofs.lemmas.Bool.{lt-leb}
use Rattle.lists.specs.Tests.{either}
use Rattle.transcript.specs.{Reading.Reading, View.{Ending, enough, whole_output, Transcribed, written_of}, declared.NoRoom.NoRoom}
use Rattle.protocol.specs.Step.{answers}
use Rattle.arrays.specs.Copies.{Wrote, wrote_le}
use Rattle.crashsets.specs.{CrashSets.survivors, Digits.ROOM}
use Rattle.precedes.specs.{declared.Processing.Processing, declared.Answer.Answer, Precedes.{Name, Right, number}}

-- the largest number of 64 bits: the buffer has no room for all answers
abbrev pub no_room : ℕ
no_room = 18446744073709551615

unfoldable pub counted : ℕ → List ℕ → ℕ
counted room input = cond (enough room input) (length (answers input)) no_room

pub record Entered (input room : List ℕ) (r written : ℕ) (out : List ℕ) : Type 0 where
  pub count : r ≡ counted (length room) input
  pub bytes : Wrote room (whole_output (length room) input) written out

pub entered : (input room : List ℕ) (e : Result ℕ NoRoom) (out : List ℕ) → Transcribed input room e out → (r : ℕ) → r ≡ cond (is_ok e) (written_of e) no_room → Entered input room r (written_of e) out
unfolding counted whole_output
entered input room e out t r is = record {
  count = is ∙ rw t.ok (either (enough (length room) input) (λ h. rw h (t.written ∙ rw h)) (λ h. rw h));
  bytes = record { count = t.written; bytes = t.bytes };
}

-- the end of an input that came in pieces, of which n bytes of the line under way were read: then none is under way, or all is as it was
pub record Finished (r : Reading) (n : ℕ) (room : List ℕ) (answer len : ℕ) (s line out : List ℕ) : Type 0 where
  pub ended : Result ℕ NoRoom
  pub ending : Ending r n room ended s line out
  pub count : answer ≡ cond (is_ok ended) (written_of ended) no_room
  pub left : len ≡ cond (is_ok ended) 0 n

-- document 02, Point 8: all lines, or nothing where the buffer may be too short for them
unfoldable pub lines_written : ℕ → List ℕ → List ℕ
lines_written room input = cond (leb ROOM room) (survivors input) []

pub record Counted (input room : List ℕ) (r : ℕ) (out : List ℕ) : Type 0 where
  pub count : r ≡ cond (leb ROOM (length room)) (length (survivors input)) no_room
  pub bytes : out ≡ lines_written (length room) input ++ drop (length (lines_written (length room) input)) room

-- what was written to the first 48 bytes of a buffer was written to the buffer
pub wrote_front : (room s front out : List ℕ) (r : ℕ) → ROOM ≤ length room → front ≡ take ROOM room → Wrote front s r out → length out ≡ ROOM → Wrote room s r (out ++ drop ROOM room)
wrote_front room s front out r h e w long =
    let few : r ≤ length (take ROOM room) = omega (arith, wrote_le w, long, length-take-le ROOM room h) in
    let rest : drop r (take ROOM room) ++ drop ROOM room ≡ drop r room = sym (drop-append-le r (take ROOM room) (drop ROOM room) few) ∙ ap (drop r) (take-append-drop ROOM room) in
    record { count = w.count; bytes = rw (w.bytes, e) (append_assoc s (drop r (take ROOM room)) (drop ROOM room) ∙ ap (s ++◌) rest) }

module _ (input room : List ℕ) where
  pub counted_lines : ROOM ≤ length room → (r : ℕ) (out : List ℕ) → Wrote room (survivors input) r out → Counted input room r out
  unfolding lines_written
  counted_lines h r out w = let e = le-leb ROOM (length room) h in record { count = rw e w.count; bytes = w.bytes ∙ rw (e, w.count) }

  pub not_counted : length room < ROOM → Counted input room no_room room
  unfolding lines_written
  not_counted h = let e = lt-leb ROOM (length room) h in record { count = rw e; bytes = rw e }

-- document 02, Point 12: the right answer, as a number
pub record Answered (row : List Processing) (a b : Name) (r : ℕ) : Type 0 where
  pub answer : Answer
  pub right : Right row a b answer
  pub as_number : r ≡ number answer
