-- A reader that has been fed a part of an input and has written into a lent buffer: where it stands, and how it goes on.
use Rattle.std.specs.Prelude.{List, [], ◌++◌, ◌≡◌, refl, ℕ, suc, ◌+◌, ◌-◌, ◌≤◌, ◌<◌, length, take, drop}
use Rattle.std.proofs.Common.{append-nil, sym, ap, ◌∙◌, arith, length-append, length-drop, take-append-drop, take-take}
use Rattle.std.proofs.Math.Seq.{drop-length}
use Rattle.protocol.specs.{Parts.State, Frames.Line, Step.{Outcome, step}}
use Rattle.arrays.specs.Copies.{put_at, wrote_more}
use Rattle.lines.specs.LineEnd.{line_end, line_part}
use Rattle.transcript.specs.{Reading.{Reading, line_room, answer_room, within, printed, takes}, Pieces.kept_step, Printed.printed_fits}
use Rattle.transcript.specs.{LineWise.{Reads, reads_none, reads_more, reads_part, reads_line, takes_none}}

-- r was fed the first t bytes of the input and is `now`; it wrote w bytes, its answers, to a buffer that held out₀
pub record FedSoFar (r : Reading) (input out₀ : List ℕ) (now : Reading) (t w : ℕ) (out : List ℕ) : Type 0 where
  pub answers : List ℕ
  pub reads : Reads (length out₀) r t input (length out₀ - w) now answers
  pub within_input : t ≤ length input
  pub within_room : w ≤ length out₀
  pub written : w ≡ length answers
  pub bytes : out ≡ answers ++ drop w out₀

pub nothing_yet : (r : Reading) (input out₀ : List ℕ) → FedSoFar r input out₀ r 0 0 out₀
nothing_yet r input out₀ =
    let z : length out₀ - 0 ≡ length out₀ = omega arith in
    record { answers = []; reads = rw z (reads_none (length out₀) r input); within_input = omega arith; within_room = omega arith; written = refl; bytes = refl }

module _ (r : Reading) (input out₀ : List ℕ) (now : Reading) (t w : ℕ) (out : List ℕ) (inv : FedSoFar r input out₀ now t w out) where
  -- m bytes more, which print o
  fed_more : (m left : ℕ) (next : Reading) (o : List ℕ) (v : ℕ) → Reads (length out₀ - w) now m (drop t input) left next o → t + m ≤ length input
      → v ≡ w + length o → v ≤ length out₀ → FedSoFar r input out₀ next (t + m) v (take w out ++ o ++ drop v out)
  fed_more m left next o v more there is-v room = record {
    answers = inv.answers ++ o;
    reads = let e : left ≡ length out₀ - v = omega arith in reads_more inv.reads (rw e at more);
    within_input = there;
    within_room = room;
    written = rw length-append (omega arith);
    bytes = rw is-v (wrote_more inv.answers out₀ out w inv.written inv.bytes o (length o));
  }

  -- there is no more to take: the input is at its end, or there is no room
  pub at_end : t ≡ length input → t ≡ takes (length out₀) r input
  unfolding takes
  at_end e = sym (inv.reads.taken ∙ rw (e, drop-length) (omega arith))

  pub no_room : length out₀ - w < answer_room → t ≡ takes (length out₀) r input
  no_room h = sym (inv.reads.taken ∙ rw (takes_none (length out₀ - w) now (drop t input) h) (omega arith))

-- ---- a turn of the loop: `kept` is what is kept of the line up to `end`, before the next newline
module _ (r : Reading) (input out₀ : List ℕ) (s : State) (l : Line) (t w : ℕ) (out : List ℕ) (inv : FedSoFar r input out₀ (within s l) t w out) (room : answer_room ≤ length out₀ - w)
    (kept : Line) (is_kept : kept ≡ take line_room (l ++ line_part (drop t input))) (end : ℕ) (is_end : end ≡ t + line_end (drop t input)) where
  -- the line ends there, and its answer is put
  pub fed_turn : end < length input → (o : Outcome) → o ≡ step s kept → (n : ℕ) (next : List ℕ) → n ≡ length (printed o.answer) → next ≡ put_at out w (printed o.answer)
      → FedSoFar r input out₀ (within o.state []) (end + 1) (w + n) next
  fed_turn h o is-step n next is-long is-put =
      let e : end + 1 ≡ t + suc (line_end (drop t input)) = omega arith in
      let f : o ≡ step s (l ++ line_part (drop t input)) = is-step ∙ ap (step s) is_kept ∙ kept_step s (l ++ line_part (drop t input)) in
      rw (is-long, is-put, e, f)
      (fed_more r input out₀ (within s l) t w out inv _ _ _ _ _ (reads_line s (length out₀ - w) room l (drop t input) (omega (arith, length-drop t input))) (omega arith) refl
      (omega (arith, printed_fits (step s (l ++ line_part (drop t input))).answer)))

  -- the input ends first
  pub fed_stop : end ≡ length input → FedSoFar r input out₀ (within s kept) end w out
  unfolding within
  fed_stop h =
      let same : take w out ++ [] ++ drop w out ≡ out = rw append-nil (take-append-drop w out) in
      rw (is_kept, take-take line_room line_room (l ++ line_part (drop t input)) (omega arith), is_end)
      (rw same at (fed_more r input out₀ (within s l) t w out inv _ _ _ _ w (reads_part s (length out₀ - w) room l (drop t input)) (omega arith) (omega arith) inv.within_room))
