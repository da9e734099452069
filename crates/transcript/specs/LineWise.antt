-- Reading line by line is reading byte by byte: up to the next newline, and past it.
use Rattle.std.specs.Prelude.{false, List, [], ◌∷◌, ◌++◌, ◌≡◌, refl, ℕ, suc, ◌+◌, ◌-◌, ◌≤◌, ◌<◌, eqb, length, take, drop}
use Rattle.std.proofs.Common.{append_assoc, append-nil, ◌∙◌, arith, le-leb, length-append, drop-drop, take-add}
use Rattle.std.proofs.lemmas.Bool.{lt-leb}
use Rattle.lists.specs.Tests.{either}
use Rattle.arrays.specs.Place.{place}
use Rattle.lines.specs.LineEnd.{line_end, line_part}
use Rattle.protocol.specs.{Parts.State, Frames.Line, Lines.newline, Step.step}
use Rattle.transcript.specs.{Reading.{Reading, answer_room, within, printed, read_byte, byte_output, read_all, output, takes}}
use Rattle.transcript.specs.{Pieces.{read_append, output_append, ends_state, ends_output, goes_on, goes_on_silent}}

-- ---- with so much room r takes the first m bytes of i, which print o, and goes on as `next`, with the room that is left
pub record Reads (room : ℕ) (r : Reading) (m : ℕ) (i : List ℕ) (left : ℕ) (next : Reading) (o : List ℕ) : Type 0 where
  pub reader : read_all r (take m i) ≡ next
  pub prints : output r (take m i) ≡ o
  pub leaves : left ≡ room - length o
  pub taken : takes room r i ≡ m + takes left next (drop m i)

pub reads_none : (room : ℕ) (r : Reading) (i : List ℕ) → Reads room r 0 i room r []
unfolding read_all output
reads_none room r i = record { reader = refl; prints = refl; leaves = omega arith; taken = omega arith }

pub reads_more : {room mid left : ℕ} {r q next : Reading} {m n : ℕ} {i o p : List ℕ} → Reads room r m i mid q o → Reads mid q n (drop m i) left next p
    → Reads room r (m + n) i left next (o ++ p)
reads_more {m = m} {n} {i} a b = record {
  reader = rw (take-add m n i, read_append, a.reader) b.reader;
  prints = rw (take-add m n i, output_append, a.prints, a.reader, b.prints);
  leaves = rw length-append (omega arith);
  taken = a.taken ∙ rw (b.taken, drop-drop) (omega arith);
}

-- a byte in front of m others
pub reads_byte : {room mid left : ℕ} {r q next : Reading} {b m : ℕ} {i o p : List ℕ} → answer_room ≤ room → read_byte r b ≡ q → byte_output r b ≡ o → mid ≡ room - length o
    → Reads mid q m i left next p → Reads room r (suc m) (b ∷ i) left next (o ++ p)
unfolding read_all output takes
reads_byte {room} h is-q is-o rest a = record {
  reader = cc a.reader;
  prints = cc a.prints;
  leaves = rw length-append (omega arith);
  taken = rw (le-leb answer_room room h, is-q, is-o, ← rest) (omega (arith, a.taken));
}

module _ (s : State) (room : ℕ) (h : answer_room ≤ room) where
  pub reads_on : (l : Line) (b : ℕ) → eqb b newline ≡ false → {left : ℕ} {next : Reading} {m : ℕ} {i p : List ℕ} → Reads room (within s (l ++ (b ∷ []))) m i left next p
      → Reads room (within s l) (suc m) (b ∷ i) left next p
  reads_on l b e a = reads_byte h (goes_on s l b e) (goes_on_silent s l b e) (omega arith) a

  -- up to the next newline nothing is printed and the line grows
  pub reads_part : (l : Line) (i : List ℕ) → Reads room (within s l) (line_end i) i room (within s (l ++ line_part i)) []
  unfolding line_end place
  reads_part l [] = rw append-nil (reads_none room (within s l) [])
  reads_part l (b ∷ i) =
      either (eqb b newline)
      (λ e. rw (e, append-nil) (reads_none room (within s l) (b ∷ i)))
      (λ e. rw (e, ← append_assoc l (b ∷ []) (line_part i)) (reads_on l b e (reads_part (l ++ (b ∷ [])) i)))

  -- a newline that is there ends the line
  pub reads_line : (l : Line) (i : List ℕ) → line_end i < length i
      → let o = step s (l ++ line_part i) in Reads room (within s l) (suc (line_end i)) i (room - length (printed o.answer)) (within o.state []) (printed o.answer)
  unfolding line_end place
  reads_line l [] there = absurd (omega arith)
  reads_line l (b ∷ i) there =
      either (eqb b newline)
      (λ e. rw (e, append-nil) (rw append-nil at (reads_byte h (ends_state s l b e) (ends_output s l b e) refl (reads_none _ _ i))))
      (λ e. let f = rw e at there in rw (e, ← append_assoc l (b ∷ []) (line_part i)) (reads_on l b e (reads_line (l ++ (b ∷ [])) i (omega arith))))

pub takes_none : (room : ℕ) (r : Reading) (i : List ℕ) → room < answer_room → takes room r i ≡ 0
unfolding takes
takes_none room r [] h = refl
takes_none room r (b ∷ i) h = rw (lt-leb answer_room room h)
