-- What the program does with what a read gave. No contract can say what is read and what is written: these say what reaches the reader.
use Rattle.std.specs.Prelude.{◌⊎◌, ◌≡◌, refl, Bool, true, false, List, [], ◌++◌, ℕ, zero, suc, min, length, take, Option, None, Some, Result}
use Rattle.std.proofs.Math.Logic.{inl, inr}
use Rattle.std.specs.declared.ops.ControlFlow.{ControlFlow}
use Rattle.std.specs.declared.ops.ControlFlow.TheVariants.{Continue, Break}
use Rattle.std.proofs.Common.{ap, ◌∙◌, arith}
use Rattle.lists.specs.Tests.{true_not_false}
use Rattle.arrays.specs.Copies.{take_min}
use Rattle.protocol.specs.Parts.{State}
use Rattle.store.specs.View.{view}
use Rattle.transcript.specs.{Reading.{Reading, within, read_all, end_state}, Pieces.read_append, View.{reading, Ending}, declared.NoRoom.NoRoom}

-- how many bytes of the line under way there are, and whether the input goes on
abbrev pub len_of : ControlFlow ℕ ℕ → ℕ
len_of (Continue n) = n
len_of (Break n) = n

abbrev pub goes_on : ControlFlow ℕ ℕ → Bool
goes_on (Continue n) = true
goes_on (Break n) = false

-- The reader took a beginning of the piece, and all of it where the input goes on.
pub record Answered (r : Reading) (piece : List ℕ) (t : ControlFlow ℕ ℕ) (after : Reading) : Type 0 where
  pub taken : ℕ
  pub reader : after ≡ read_all r (take taken piece)
  pub all : goes_on t ≡ true → take taken piece ≡ piece

-- What a read gave: how many bytes stand at the front of the buffer; 0 at the end of the input, where a last line without a newline is
-- answered; none where the read failed, and then nothing more is done.
unfoldable pub Turned : (r : Reading) (n : ℕ) (input room : List ℕ) → Option ℕ → ControlFlow ℕ ℕ → (s line out : List ℕ) → Type 0
Turned r n input room None t s line out = (goes_on t ≡ false) × (reading s line (len_of t) ≡ r)
Turned r n input room (Some zero) t s line out = (goes_on t ≡ false) × ((e : Result ℕ NoRoom) × Ending r n room e s line out)
Turned r n input room (Some (suc k)) t s line out = Answered r (take (suc k) input) t (reading s line (len_of t))

-- The reader has read some bytes, and may have answered a last line.
pub record Played (r : Reading) (s : State) : Type 0 where
  pub bytes : List ℕ
  pub state : (s ≡ (read_all r bytes).state) ⊎ ((room : ℕ) × (s ≡ end_state room (read_all r bytes)))

-- ---- by the cases of the code
module _ (r : Reading) (n : ℕ) (input room : List ℕ) (t : ControlFlow ℕ ℕ) (s line out : List ℕ) where
  pub at_end : (k : ℕ) → k ≡ 0 → goes_on t ≡ false → (e : Result ℕ NoRoom) → Ending r n room e s line out → Turned r n input room (Some k) t s line out
  unfolding Turned
  at_end zero z m e h = (m, (e, h))
  at_end (suc k) z m e h = absurd (omega arith)

  pub given : (k : ℕ) → (k ≡ 0 → ⊥) → Answered r (take (min k (length input)) input) t (reading s line (len_of t)) → Turned r n input room (Some k) t s line out
  unfolding Turned
  given zero z a = absurd (z refl)
  given (suc k) z a = rw take_min at a

-- ---- turn by turn
-- where the input goes on, the reader has read some bytes
abbrev pub Goes_on : Reading → Bool → Reading → Type 0
Goes_on r more after = more ≡ true → (bytes : List ℕ) × (after ≡ read_all r bytes)

module _ (r : Reading) (n : ℕ) (input room : List ℕ) (t : ControlFlow ℕ ℕ) (s line out : List ℕ) where
  pub turned : (got : Option ℕ) → Turned r n input room got t s line out → Goes_on r (goes_on t) (reading s line (len_of t)) × Played r (view s)
  unfolding Turned reading within read_all
  turned None h = ((λ m. absurd (true_not_false m h.0)), record { bytes = []; state = inl (ap (λ (x : Reading). x.state) h.1) })
  turned (Some zero) h = ((λ m. absurd (true_not_false m h.0)), record { bytes = []; state = inr (length room, h.1.1.state) })
  turned (Some (suc k)) h = let b = take h.taken (take (suc k) input) in ((λ _. (b, h.reader)), record { bytes = b; state = inl (ap (λ (x : Reading). x.state) h.reader) })

-- after some bytes more
pub goes_further : (r q : Reading) (bytes : List ℕ) → q ≡ read_all r bytes → {more : Bool} (after : Reading) → Goes_on q more after → Goes_on r more after
goes_further r q bytes e after on m = let (next, h) = on m in (bytes ++ next, h ∙ rw (e, read_append))

pub plays_further : (r q : Reading) (bytes : List ℕ) → q ≡ read_all r bytes → (s : State) → Played q s → Played r s
plays_further r q bytes e s p = record { bytes = bytes ++ p.bytes; state = elim p.state [ inl h ↦ inl (h ∙ rw (e, read_append)) | inr h ↦ inr (h.0, h.1 ∙ rw (e, read_append)) ] }
