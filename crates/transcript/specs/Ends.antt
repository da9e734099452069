-- The end of an input, and a whole input: what the functions yield, from what feeding yields.
use Rattle.std.specs.Prelude.{true, false, List, [], ◌∷◌, ◌++◌, ◌≡◌, refl, ℕ, zero, suc, ◌+◌, ◌-◌, ◌≤◌, ◌<◌, min, eqb, leb, length, take, drop, Result, Ok, Err, is_ok}
use Rattle.std.proofs.Common.{append_assoc, append-nil, sym, ap, ◌∙◌, arith, eq-eqb, ne_eqb, length-append, length-take, length-drop, drop_of_length-le, take_all, drop-drop}
use Rattle.std.proofs.Math.Seq.{take-length}
use Rattle.lists.specs.Tests.{either, true_not_false}
use Rattle.protocol.specs.{Lines.{newline, lines}}
use Rattle.store.specs.View.{view}
use Rattle.arrays.specs.Copies.{rest_stays, wrote_more, take_min}
use Rattle.transcript.specs.{Reading.{Reading, LINE, line_room, answer_room, within, beginning, read_byte, byte_output, read_all, output}}
use Rattle.transcript.specs.{Reading.{is_empty, last_output, takes, finishes, end_state}}
use Rattle.transcript.specs.{Pieces.{kept_empty, reads_transcript}, Demand.{after, ended_state}}
use Rattle.transcript.specs.{View.{reading, Feeding, end_output, Ending, enough, whole_output, Transcribed, written_of}, declared.Fed.Fed, declared.NoRoom.NoRoom}

-- ---- what was taken lies within the input, what was written within the buffer
pub takes_le : (room : ℕ) (r : Reading) (i : List ℕ) → takes room r i ≤ length i
unfolding takes
takes_le room r [] = omega arith
takes_le room r (b ∷ i) = either (leb answer_room room) (λ e. rw e (let h = takes_le (room - length (byte_output r b)) (read_byte r b) i in omega arith)) (λ e. rw e (omega arith))

pub fed_taken : (r : Reading) (input room : List ℕ) (f : Fed) (s line out : List ℕ) → Feeding r input room f s line out → f.taken ≤ length input
fed_taken r input room f s line out h = omega (arith, h.taken, takes_le (length room) r input)

fits : (o out room : List ℕ) (w : ℕ) → w ≡ length o → out ≡ o ++ drop w room → length out ≡ length room → w ≤ length room
fits o out room w e f g = omega (arith, ap length f, length-append o (drop w room))

pub fed_fits : (r : Reading) (input room : List ℕ) (f : Fed) (s line out : List ℕ) → Feeding r input room f s line out → length out ≡ length room → f.written ≤ length room
fed_fits r input room f s line out h same = fits (output r (take f.taken input)) out room f.written h.written h.bytes same

pub ended_fits : (r : Reading) (n : ℕ) (room : List ℕ) (e : Result ℕ NoRoom) (s line out : List ℕ) → Ending r n room e s line out → length out ≡ length room → written_of e ≤ length room
ended_fits r n room e s line out h same = fits (end_output (length room) r) out room (written_of e) h.written h.bytes same

pub whole_fits : (input room : List ℕ) (e : Result ℕ NoRoom) (out : List ℕ) → Transcribed input room e out → length out ≡ length room → written_of e ≤ length room
whole_fits input room e out h same = fits (whole_output (length room) input) out room (written_of e) h.written h.bytes same

-- ---- the end of an input, and the demand with it
ending : (r : Reading) (n : ℕ) (room : List ℕ) (e : Result ℕ NoRoom) (s line out : List ℕ) → is_ok e ≡ finishes (length room) r → view s ≡ end_state (length room) r
    → (is_ok e ≡ false → reading s line n ≡ r) → written_of e ≡ length (end_output (length room) r) → out ≡ end_output (length room) r ++ drop (written_of e) room → Ending r n room e s line out
ending r n room e s line out ok state stays written bytes = record {
  ok = ok;
  state = state;
  stays = stays;
  demand = λ d before g. after (lines before) (view s) (state ∙ rw g (ended_state (length room) before (rw g at (sym ok ∙ d))));
  written = written;
  bytes = bytes;
}

-- no line is under way
pub ends_empty : (s line room : List ℕ) (n : ℕ) → n ≡ 0 → Ending (reading s line n) n room (Ok 0) s line room
unfolding reading within is_empty finishes end_output end_state last_output
ends_empty s line room n z =
    let e : is_empty (reading s line n).line ≡ true = kept_empty (view s) (take n line) ∙ rw z in
    ending (reading s line n) n room (Ok 0) s line room (rw e) (rw e) (λ _. refl) (rw e) (rw e)

pub one_begun : (s line : List ℕ) (n : ℕ) → length line ≡ LINE → (n ≡ 0 → ⊥) → is_empty (reading s line n).line ≡ false
unfolding reading within line_room is_empty
one_begun s line zero size h = absurd (h refl)
one_begun s [] (suc n) size h = absurd (omega arith)
one_begun s (x ∷ line) (suc n) size h = refl

-- a line is under way: one newline more, if it is taken
module _ (r : Reading) (room : ℕ) (begun : is_empty r.line ≡ false) where
  taken_end : finishes room r ≡ eqb (takes room r (newline ∷ [])) 1
  unfolding finishes takes
  taken_end = either (leb answer_room room) (λ e. rw (begun, e)) (λ e. rw (begun, e))

  taken_state : end_state room r ≡ (read_all r (take (takes room r (newline ∷ [])) (newline ∷ []))).state
  unfolding end_state takes read_all read_byte
  taken_state = either (leb answer_room room) (λ e. rw (begun, e)) (λ e. rw (begun, e))

  taken_output : end_output room r ≡ output r (take (takes room r (newline ∷ [])) (newline ∷ []))
  unfolding finishes end_output last_output takes output
  taken_output = either (leb answer_room room) (λ e. rw (begun, e, append-nil)) (λ e. rw (begun, e))

-- not taken: the count of the line is the one that came, or the room, and these give the same line
not_taken : (r : Reading) (room : ℕ) (t : ℕ) → t ≡ takes room r (newline ∷ []) → eqb t 1 ≡ false → t ≡ 0
unfolding takes
not_taken r room t e n = either (leb answer_room room) (λ a. absurd (true_not_false (sym n ∙ rw (e, a)) refl)) (λ a. e ∙ rw a)

same_line : (s₀ line₀ s line : List ℕ) (n k : ℕ) → length line₀ ≡ LINE → length line ≡ LINE → k ≡ length (reading s₀ line₀ n).line → reading s line n ≡ reading s line k
unfolding reading within line_room
same_line s₀ line₀ s line n k a b e =
    let count : min n (length line) ≡ k = omega (arith, length-take line_room (take n line₀), length-take n line₀) in
    ap (within (view s)) (sym (take_min n line) ∙ ap (λ i. take i line) count)

pub ends_begun : (s₀ line₀ : List ℕ) (n : ℕ) (room : List ℕ) → length line₀ ≡ LINE → is_empty (reading s₀ line₀ n).line ≡ false → (f : Fed) (s line out : List ℕ)
    → length line ≡ LINE → Feeding (reading s₀ line₀ n) (newline ∷ []) room f s line out
    → (e : Result ℕ NoRoom) → is_ok e ≡ eqb f.taken 1 → written_of e ≡ f.written → Ending (reading s₀ line₀ n) n room e s line out
ends_begun s₀ line₀ n room size₀ begun f s line out size h e is-ok is-written =
    let r = reading s₀ line₀ n in
    let o : end_output (length room) r ≡ output r (take f.taken (newline ∷ [])) = rw h.taken (taken_output r (length room) begun) in
    ending r n room e s line out
    (is-ok ∙ rw h.taken (sym (taken_end r (length room) begun)))
    (unfold reading within in ap (λ (x : Reading). x.state) h.reader ∙ rw h.taken (sym (taken_state r (length room) begun)))
    (λ no.
    let none : read_all r (take f.taken (newline ∷ [])) ≡ r = unfold read_all in rw (not_taken r (length room) f.taken h.taken (sym is-ok ∙ no)) in
    same_line s₀ line₀ s line n f.len size₀ size (h.len ∙ ap (λ (x : Reading). length x.line) none) ∙ h.reader ∙ none)
    (is-written ∙ rw o h.written)
    (rw (is-written, o) h.bytes)

-- ---- a whole input
-- some of it was not taken
pub whole_short : (input room : List ℕ) (f : Fed) (s line out : List ℕ) → Feeding beginning input room f s line out → f.taken < length input
    → Transcribed input room (Err (record { written = f.written })) out
unfolding enough whole_output
whole_short input room f s line out h less =
    let n : eqb (takes (length room) beginning input) (length input) ≡ false = ne_eqb (takes (length room) beginning input) (length input) (λ e. omega (arith, h.taken)) in
    record { ok = rw n; written = h.written ∙ rw (n, ← h.taken); bytes = h.bytes ∙ rw (n, ← h.taken) }

-- all of it was taken: what is left of the buffer is for the end
module _ (input room out : List ℕ) (w : ℕ) (taken : takes (length room) beginning input ≡ length input)
    (written : w ≡ length (output beginning input)) (bytes : out ≡ output beginning input ++ drop w room) where
  is_enough : enough (length room) input ≡ finishes (length (drop w out)) (read_all beginning input)
  unfolding enough
  is_enough =
      let left : length room - length (output beginning input) ≡ length (drop w out) = rw (← written, rest_stays (output beginning input) room out w written bytes, length-drop) in
      rw (eq-eqb (takes (length room) beginning input) (length input) taken, left)

  is_whole : whole_output (length room) input ≡ output beginning input ++ end_output (length (drop w out)) (read_all beginning input)
  unfolding whole_output end_output
  is_whole =
      either (finishes (length (drop w out)) (read_all beginning input))
      (λ e. rw (is_enough, e) (sym (reads_transcript input)))
      (λ e. rw (is_enough, e, taken, take-length, append-nil))

-- the end was written into the part of the buffer that was left
pub whole_long : (input room : List ℕ) (f : Fed) (s line out : List ℕ) → Feeding beginning input room f s line out → length input ≤ f.taken
    → (e : Result ℕ NoRoom) (t u part : List ℕ) → Ending (reading s line f.len) f.len (take (length out - f.written) (drop f.written out)) e t u part
    → (x : Result ℕ NoRoom) → is_ok x ≡ is_ok e → written_of x ≡ f.written + written_of e → Transcribed input room x (take f.written out ++ (part ++ drop (length out - f.written) (drop f.written out)))
whole_long input room f s line out h all e t u part k x is-ok is-written =
    let w = f.written in
    let fed-all : take f.taken input ≡ input = take_all f.taken input all in
    let taken : takes (length room) beginning input ≡ length input = omega (arith, h.taken, takes_le (length room) beginning input) in
    let written : w ≡ length (output beginning input) = rw fed-all at h.written in
    let bytes : out ≡ output beginning input ++ drop w room = rw fed-all at h.bytes in
    let rest : take (length out - w) (drop w out) ≡ drop w out = take_all (length out - w) (drop w out) (omega (arith, length-drop w out)) in
    let none : drop (length out - w) (drop w out) ≡ [] = drop_of_length-le (drop w out) {i = length out - w} (omega (arith, length-drop w out)) in
    let g : Ending (read_all beginning input) f.len (drop w out) e t u part = rw (rest, h.reader, fed-all) at k in
    let whole = is_whole input room out w taken written bytes in
    record {
      ok = is-ok ∙ g.ok ∙ sym (is_enough input room out w taken written bytes);
      written = is-written ∙ rw (whole, length-append) (omega (arith, written, g.written));
      bytes = rw (is-written, none, append-nil, whole, g.bytes, ← append_assoc, drop-drop) (wrote_more (output beginning input) room out w written bytes _ (written_of e));
    }
