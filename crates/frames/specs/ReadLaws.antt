-- From the digits of a line to its frame.
use Rattle.std.specs.Prelude.{None, Bool, true, false, cond, not, ◌&&◌, [], ◌∷◌, ◌≡◌, refl, ℕ, ◌+◌, ◌*◌, ◌<◌, ◌≤◌, ◌/◌, ◌%◌, eqb, leb, length, get_or, drop}
use Rattle.std.proofs.Common.{⊎_elim, sym, ◌∙◌, arith, le-leb, eq-eqb, ne_eqb, eqb-true}
use Rattle.std.proofs.Math.Bool.{and-true, and-false}
use Rattle.std.proofs.Math.ListN.{get_or-eq_default as List·getD-eq-default}
use Rattle.std.proofs.Math.Option.{Option, none}
use Rattle.lists.specs.Tests.{either, eq?}
use Rattle.protocol.specs.Frames.{Line, bytes, least, least_length, exact_length, is_whole, parts, frame, frame_of}
use Rattle.frames.specs.{Decode.{decoded, is_hexadecimal, is_pair}, DecodeLaws.{length_decoded, bytes_decoded}, PairLaws.{no_kind, a_kind}}
use Rattle.frames.specs.{Read.{read_as, meaning, job_as, behind_kind, Sized}}
use Rattle.protocol.specs.Frames

-- ---- the frame of any line
-- a length that is x is at least what x is
exact_least : (m x n : ℕ) → m ≤ x → (leb m n && eqb n x) ≡ eqb n x
exact_least m x n h = either (eqb n x)
    (λ e. let q = eqb-true n x e in rw (le-leb m n (omega arith)))
    (λ e. rw (e, and-false (leb m n)))

frame_cond : (l : Line) → frame l ≡ cond (is_hexadecimal l && is_whole (decoded l)) (parts (decoded l) (get_or (decoded l) 0 0)) none
unfolding frame frame_of
frame_cond l = either (is_hexadecimal l) (λ e. rw (bytes_decoded l, e)) (λ e. rw (bytes_decoded l, e))

pub frame_short : (l : Line) → length l < 2 → None ≡ read_as (frame l)
unfolding frame frame_of bytes is_whole least_length least read_as
frame_short [] h = refl
frame_short (x ∷ []) h = refl
frame_short (x ∷ y ∷ l) h = absurd (omega arith)

pub frame_no_kind : (l : Line) → 2 ≤ length l → is_pair l 0 ≡ false → None ≡ read_as (frame l)
unfolding read_as
frame_no_kind l h e = rw (frame_cond l, no_kind l h e)

-- ---- a line with a kind: k is its number, and m its entry in the table of least lengths
module _ (l : Line) (k : ℕ) (h : 2 ≤ length l) (digits : is_pair l 0 ≡ true) (is-kind : k ≡ get_or (decoded l) 0 0) where
  kind_byte : get_or (decoded l) 0 0 ≡ k
  kind_byte = sym is-kind

  pub frame_unknown : 23 < k → None ≡ read_as (frame l)
  unfolding read_as is_whole least_length least
  frame_unknown u = rw (frame_cond l, kind_byte, List·getD-eq-default least 0 {n = k} u, and-false (is_hexadecimal l))

  module _ (known : k ≤ 23) (m : ℕ) (is-least : m ≡ least_length k) where
    pub frame_job : k ≡ 1 → job_as l m ≡ read_as (frame l)
    unfolding job_as read_as parts is_whole exact_length least_length least
    frame_job e =
        let exact = 3 + get_or (decoded l) 1 0 + 3 * get_or (decoded l) 2 0 in
        let three : m ≡ 3 = is-least ∙ rw e in
        rw (three, frame_cond l, kind_byte ∙ e, length_decoded l, exact_least 3 exact (length l / 2) (omega arith))
        (either (is_hexadecimal l && eqb (length l / 2) exact) (λ t. rw t) (λ t. rw t))

    module _ (other : k ≡ 1 → ⊥) where
      whole_other : is_whole (decoded l) ≡ (not (eqb m 0) && leb m (length l / 2) && eqb (length l / 2) m)
      unfolding is_whole exact_length
      whole_other = rw (kind_byte, ne_eqb k 1 other, ← is-least, length_decoded l)

      pub frame_length : (length l ≡ 2 * m → ⊥) → None ≡ read_as (frame l)
      unfolding read_as is_hexadecimal
      frame_length n =
          ⊎_elim
          (λ (e : length l % 2 ≡ 0).
          let differs = ne_eqb (length l / 2) m (λ f. n (omega arith)) in
          rw (frame_cond l, whole_other, differs, and-false (not (eqb m 0) && leb m (length l / 2)), and-false (is_hexadecimal l)))
          (λ e. rw (frame_cond l, ne_eqb (length l % 2) 0 e))
          (eq? (length l % 2) 0)

  pub frame_behind : Sized (length l) k → read_as (behind_kind l k) ≡ read_as (frame l)
  unfolding behind_kind
  frame_behind z =
      let m = least_length k in
      let some : m ≡ 0 → ⊥ = λ e. omega arith in
      let half : length l / 2 ≡ m = omega arith in
      let whole : is_whole (decoded l) ≡ true = whole_other z.known m refl z.other ∙ rw (ne_eqb m 0 some, half, le-leb m m (omega arith), eq-eqb m m refl) in
      rw (frame_cond l, whole, kind_byte, a_kind l h digits, and-true (is_hexadecimal (drop 2 l)))

-- ---- nothing is lost: the frame of a line, from what the code has of it
module _ (l : Line) where
  kept : (t : Bool) (f g : Option Frames.Frame) → f ≡ meaning l (read_as f) → g ≡ meaning l (read_as g) → cond t f g ≡ meaning l (read_as (cond t f g))
  kept true f g p q = p
  kept false f g p q = q

  pub frame_meaning : frame l ≡ meaning l (read_as (frame l))
  unfolding parts read_as meaning
  frame_meaning = rw (frame_cond l) (search kept depth 13)
