-- A buffer of 16 bytes a line has room for every answer.
use Rattle.std.specs.Prelude.{true, List, [], ◌∷◌, ◌++◌, ◌≡◌, refl, ℕ, ◌*◌, ◌-◌, ◌≤◌, ◌<◌, eqb, length}
use Rattle.std.proofs.Common.{◌∙◌, arith, eq-eqb, le-leb}
use Rattle.std.proofs.Math.Seq.{take-length, drop-length}
use Rattle.lists.specs.Tests.{either}
use Rattle.protocol.specs.{Parts.{State, start}, Frames.Line, Lines.{newline, lines}, Step.{step, answers}}
use Rattle.transcript.specs.{Reading.{Reading, answer_room, within, beginning, printed, is_empty, takes, finishes}}
use Rattle.transcript.specs.{Pieces.{continued, continued_nothing, continued_hit, continued_miss, kept_empty, ends_state, ends_output}}
use Rattle.transcript.specs.{LineWise.{Reads, reads_none, reads_byte, reads_on}, Printed.printed_fits, View.{enough, whole_output}}

-- a line that was begun is a line
some_line : (l : Line) (b : ℕ) (ls : List Line) → 0 < length (continued (l ++ (b ∷ [])) ls)
unfolding continued is_empty
some_line [] b [] = omega arith
some_line (x ∷ l) b [] = omega arith
some_line l b (x ∷ ls) = omega arith

enough_end : (room : ℕ) (s : State) (l : Line) → answer_room * length (continued l []) ≤ room → finishes room (within s l) ≡ true
unfolding continued finishes
enough_end room s l h = rw kept_empty (either (is_empty l) (λ e. rw e) (λ e. rw e (let g = rw e at h in le-leb answer_room room (omega arith))))

-- all is taken, and there is room for the end
enough_lines : (room : ℕ) (s : State) (l : Line) (i : List ℕ) → answer_room * length (continued l (lines i)) ≤ room
    → (left : ℕ) × (last : Reading) × (o : List ℕ) × Reads room (within s l) (length i) i left last o × (finishes left last ≡ true)
enough_lines room s l [] h = (_, _, _, reads_none room (within s l) [], enough_end room s l (unfold lines in h))
enough_lines room s l (b ∷ i) h =
    either (eqb b newline)
    (λ e.
    let g = rw (continued_hit l b i e) at h in
    let (_, _, _, reads, end) = enough_lines (room - length (printed (step s l).answer)) (step s l).state [] i (omega (arith, printed_fits (step s l).answer)) in
    (_, _, _, reads_byte (omega arith) (ends_state s l b e) (ends_output s l b e) refl reads, end))
    (λ e.
    let g = rw (continued_miss l b i e) at h in
    let (_, _, _, reads, end) = enough_lines room s (l ++ (b ∷ [])) i g in
    (_, _, _, reads_on s room (omega (arith, some_line l b (lines i))) l b e reads, end))

-- 16 bytes a line are enough, and the whole transcript is written
pub enough_room : (room : ℕ) (input : List ℕ) → answer_room * length (lines input) ≤ room → enough room input ≡ true
unfolding enough beginning takes
enough_room room input h =
    let (_, _, _, r, end) = enough_lines room start [] input (rw continued_nothing h) in
    let all = eq-eqb (takes room (within start []) input) (length input) (r.taken ∙ rw drop-length (omega arith)) in
    rw (all, rw take-length at r.prints, rw take-length at r.reader, ← r.leaves) end

pub whole_transcript : (room : ℕ) (input : List ℕ) → answer_room * length (lines input) ≤ room → whole_output room input ≡ answers input
unfolding whole_output
whole_transcript room input h = rw (enough_room room input h)
