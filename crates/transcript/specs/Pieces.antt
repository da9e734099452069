-- An input in pieces is the whole input, and reading it byte by byte gives its transcript.
use Rattle.std.specs.Prelude.{true, false, cond, List, [], ◌∷◌, ◌++◌, ◌≡◌, refl, ℕ, zero, suc, eqb, take}
use Rattle.std.proofs.Common.{append_assoc, append-nil, sym, ap, ◌∙◌, arith}
use Rattle.std.proofs.Math.Seq.{take-nil}
use Rattle.lists.specs.Tests.{either}
use Rattle.protocol.specs.{Parts.{State, start}, Frames.Line, Lines.{newline, extend, lines, line, print}, Step.{step, answers_from, answers}}
use Rattle.frames.specs.LongLine.{cut_line}
use Rattle.transcript.specs.Reading.{Reading, line_room, within, beginning, printed, read_byte, byte_output, read_all, output, is_empty, last_output}

-- ---- pieces
pub read_append : (r : Reading) (a b : List ℕ) → read_all r (a ++ b) ≡ read_all (read_all r a) b
unfolding read_all
read_append r [] b = refl
read_append r (x ∷ a) b = read_append (read_byte r x) a b

pub output_append : (r : Reading) (a b : List ℕ) → output r (a ++ b) ≡ output r a ++ output (read_all r a) b
unfolding read_all output
output_append r [] b = refl
output_append r (x ∷ a) b = rw append_assoc (ap (byte_output r x ++◌) (output_append (read_byte r x) a b))

-- ---- the lines of an input of which l was read before; ls are those of the rest
unfoldable pub continued : Line → List Line → List Line
continued l [] = cond (is_empty l) [] (l ∷ [])
continued l (x ∷ ls) = (l ++ x) ∷ ls

pub continued_nothing : (ls : List Line) → continued [] ls ≡ ls
unfolding continued is_empty
continued_nothing [] = refl
continued_nothing (x ∷ ls) = refl

continued_extend : (l : Line) (b : ℕ) (ls : List Line) → continued l (extend b ls) ≡ continued (l ++ (b ∷ [])) ls
unfolding continued extend is_empty
continued_extend [] b [] = refl
continued_extend (x ∷ l) b [] = refl
continued_extend l b (y ∷ ls) = ap (◌∷ ls) (sym (append_assoc l (b ∷ []) y))

module _ (l : Line) (b : ℕ) (i : List ℕ) where
  pub continued_hit : eqb b newline ≡ true → continued l (lines (b ∷ i)) ≡ l ∷ continued [] (lines i)
  unfolding lines
  continued_hit e = rw (e, continued_nothing) (unfold continued in rw append-nil)

  pub continued_miss : eqb b newline ≡ false → continued l (lines (b ∷ i)) ≡ continued (l ++ (b ∷ [])) (lines i)
  unfolding lines
  continued_miss e = rw e (continued_extend l b (lines i))

-- ---- the bytes that are kept of a line stand for the line
pub take_more : {A : Type 0} (n : ℕ) (a p : List A) → take n (take n a ++ p) ≡ take n (a ++ p)
take_more zero a p = refl
take_more (suc n) [] p = refl
take_more (suc n) (x ∷ a) p = ap (x ∷◌) (take_more n a p)

pub kept_step : (s : State) (l : Line) → step s (take line_room l) ≡ step s l
kept_step s l = cut_line s line_room l (unfold line_room in omega arith)

pub kept_empty : (s : State) (l : Line) → is_empty (within s l).line ≡ is_empty l
unfolding within is_empty line_room
kept_empty s [] = refl
kept_empty s (x ∷ l) = refl

-- ---- a byte more
module _ (s : State) (l : Line) (b : ℕ) where
  pub ends_state : eqb b newline ≡ true → read_byte (within s l) b ≡ within (step s l).state []
  unfolding within read_byte
  ends_state e = rw (e, kept_step) (λ i. record { state = (step s l).state; line = sym (take-nil line_room) i })

  pub ends_output : eqb b newline ≡ true → byte_output (within s l) b ≡ printed (step s l).answer
  unfolding within byte_output
  ends_output e = rw (e, kept_step)

  pub goes_on : eqb b newline ≡ false → read_byte (within s l) b ≡ within s (l ++ (b ∷ []))
  unfolding within read_byte
  goes_on e = rw (e, take_more)

  pub goes_on_silent : eqb b newline ≡ false → byte_output (within s l) b ≡ []
  unfolding byte_output
  goes_on_silent e = rw e

-- ---- the whole: what is printed on the way and at the end
transcribes : (s : State) (l : Line) (i : List ℕ) → output (within s l) i ++ last_output (read_all (within s l) i) ≡ print line (answers_from s (continued l (lines i)))
unfolding output read_all answers_from print printed
transcribes s l [] = unfold last_output continued lines in rw (ends_output s l newline refl, kept_empty s l) (either (is_empty l) (λ e. rw e) (λ e. rw e))
transcribes s l (b ∷ i) =
    either (eqb b newline)
    (λ e. rw (ends_output s l b e, ends_state s l b e, continued_hit l b i e)
    (simp append_assoc (ap (λ k. line (step s l).answer ++ (newline ∷ k)) (transcribes (step s l).state [] i))))
    (λ e. rw (goes_on_silent s l b e, goes_on s l b e, continued_miss l b i e) (transcribes s (l ++ (b ∷ [])) i))

pub reads_transcript : (i : List ℕ) → output beginning i ++ last_output (read_all beginning i) ≡ answers i
unfolding beginning answers
reads_transcript i = transcribes start [] i ∙ rw continued_nothing
