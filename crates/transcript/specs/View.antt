-- A store and a line under way as a reader of the definitions, and what the exported functions yield.
use Rattle.std.specs.Prelude.{Bool, true, false, cond, ◌&&◌, List, [], ◌++◌, ◌≡◌, ℕ, ◌-◌, ◌≤◌, eqb, length, take, drop, replicate, Result, Ok, Err, is_ok}
use Rattle.std.proofs.Common.{sym, ap, ◌∙◌, arith, length-take}
use Rattle.store.specs.{Places.STORE, View.view}
use Rattle.opening.specs.Zeros.{zeros_start}
use Rattle.transcript.specs.{Reading.{Reading, LINE, line_room, within, beginning, read_all, output, last_output, takes, finishes, end_state}, Pieces.read_append}
use Rattle.transcript.specs.{Feeding.FedSoFar, Demand.{After, after, finished, finished_state}, declared.Fed.Fed, declared.NoRoom.NoRoom}
use Rattle.protocol.specs.{Lines.lines, Step.answers}

-- a store that has read n bytes of the line under way
unfoldable pub reading : List ℕ → List ℕ → ℕ → Reading
reading s line n = within (view s) (take n line)

-- a store of zeros that has read no byte
pub zeros_read : reading (replicate STORE 0) (replicate LINE 0) 0 ≡ beginning
unfolding reading beginning
zeros_read = ap (λ s. within s []) zeros_start

-- What feeding yields: bytes are taken while there is room for an answer; reader and output are those of the bytes taken; the rest of
-- the buffer stays.
pub record Feeding (r : Reading) (input room : List ℕ) (f : Fed) (s line out : List ℕ) : Type 0 where
  pub taken : f.taken ≡ takes (length room) r input
  pub reader : reading s line f.len ≡ read_all r (take f.taken input)
  -- `len` is the length of the line under way, of which no more is kept than there is room for
  pub len : f.len ≡ length (read_all r (take f.taken input)).line
  pub in_room : f.len ≤ LINE
  pub written : f.written ≡ length (output r (take f.taken input))
  pub bytes : out ≡ output r (take f.taken input) ++ drop f.written room
  -- whatever pieces came before: the state of the finished lines, and demand 3 of it
  pub demand : (before : List ℕ) → r ≡ read_all beginning before → After (finished (before ++ take f.taken input)) (view s)

pub fed : (q r : Reading) → q ≡ r → (input room s : List ℕ) (len : ℕ) (line : List ℕ) (t w : ℕ) (out : List ℕ) → FedSoFar q input room (within (view s) (take len line)) t w out
    → t ≡ takes (length room) q input → len ≤ LINE → length line ≡ LINE → Feeding r input room (record { len = len; taken = t; written = w }) s line out
unfolding reading within line_room
fed q r e input room s len line t w out inv f small size =
    let reader = inv.reads.reader in
    rw (← e) (record {
      taken = f;
      reader = sym reader;
      len = rw reader (omega (arith, length-take line_room (take len line), length-take len line));
      in_room = small;
      written = rw inv.reads.prints inv.written;
      bytes = rw inv.reads.prints inv.bytes;
      demand = λ before g.
          let all : within (view s) (take len line) ≡ read_all beginning (before ++ take t input) = sym reader ∙ rw (g, read_append beginning before) in
          after (finished (before ++ take t input)) (view s) (ap (λ (x : Reading). x.state) all ∙ finished_state (before ++ take t input));
    })

-- what is printed at the end, where there is room for it; else nothing
unfoldable pub end_output : ℕ → Reading → List ℕ
end_output room r = cond (finishes room r) (last_output r) []

-- how many bytes were written, with room for all or not
abbrev pub written_of : Result ℕ NoRoom → ℕ
written_of (Ok n) = n
written_of (Err e) = e.written

-- n bytes of the line under way were read before
pub record Ending (r : Reading) (n : ℕ) (room : List ℕ) (e : Result ℕ NoRoom) (s line out : List ℕ) : Type 0 where
  pub ok : is_ok e ≡ finishes (length room) r
  pub state : view s ≡ end_state (length room) r
  -- without room the reader is as it was, to go on with
  pub stays : is_ok e ≡ false → reading s line n ≡ r
  -- whatever pieces came before: the state of all lines, and demand 3 of it
  pub demand : is_ok e ≡ true → (before : List ℕ) → r ≡ read_all beginning before → After (lines before) (view s)
  pub written : written_of e ≡ length (end_output (length room) r)
  pub bytes : out ≡ end_output (length room) r ++ drop (written_of e) room

-- a buffer has room for the transcript of a whole input
unfoldable pub enough : ℕ → List ℕ → Bool
enough room input = eqb (takes room beginning input) (length input) && finishes (room - length (output beginning input)) (read_all beginning input)

-- the transcript where there is room for it, else the answers to the bytes that were taken
unfoldable pub whole_output : ℕ → List ℕ → List ℕ
whole_output room input = cond (enough room input) (answers input) (output beginning (take (takes room beginning input) input))

pub record Transcribed (input room : List ℕ) (e : Result ℕ NoRoom) (out : List ℕ) : Type 0 where
  pub ok : is_ok e ≡ enough (length room) input
  pub written : written_of e ≡ length (whole_output (length room) input)
  pub bytes : out ≡ whole_output (length room) input ++ drop (written_of e) room
