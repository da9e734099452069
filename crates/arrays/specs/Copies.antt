-- Copying into an array: what stands there afterwards.
use Rattle.std.specs.Prelude.{List, ◌++◌, ◌≡◌, ℕ, ◌+◌, ◌-◌, ◌≤◌, ◌<◌, min, length, take, drop, set, get_or, []}
use Rattle.std.proofs.Common.{inl, inr, sym, ap, ◌∙◌, add-one, arith, length-set, length-take-le, take_all, take_at, drop_at, drop-drop, length-drop, drop_of_length-le, length-append, append-nil, append_assoc}
use Rattle.std.proofs.Math.Seq.{paste, paste-suc, take-append-add}
use Rattle.std.proofs.lemmas.List.Edits.{take-paste}
use Rattle.lists.specs.Tests.{lt?}

module _ {A : Type 0} where
  -- out, with s from `at` on
  abbrev pub put_at : List A → ℕ → List A → List A
  put_at out at s = take at out ++ s ++ drop (at + length s) out

  -- s was written to the front of the part of out from `at` on
  pub put_part : (out : List A) (at n : ℕ) (s ys : List A) → n ≡ length s → ys ≡ s ++ drop n (take (length out - at) (drop at out))
      → take at out ++ (ys ++ drop (length out - at) (drop at out)) ≡ put_at out at s
  put_part out at n s ys count e =
      let rest : take (length out - at) (drop at out) ≡ drop at out = take_all (length out - at) (drop at out) (omega (arith, length-drop at out)) in
      let none : drop (length out - at) (drop at out) ≡ [] = drop_of_length-le (drop at out) {i = length out - at} (omega (arith, length-drop at out)) in
      rw (e, rest, none, append-nil, drop-drop, ← count) (sym (append_assoc (take at out) s _))

  -- a count within the room
  pub take_min : (n : ℕ) (l : List A) → take (min n (length l)) l ≡ take n l
  take_min n l = elim (lt? n (length l)) [
    | inl h ↦ let e : min n (length l) ≡ n = omega arith in rw e
    | inr h ↦ let e : min n (length l) ≡ length l = omega arith in rw e (take_all (length l) l (omega arith) ∙ sym (take_all n l h))
  ]

  -- a piece is put behind the first n, as far as there is room
  pub kept_piece : (l : List A) (n : ℕ) (p : List A) (k : ℕ) → n ≤ length l → k ≡ min (length p) (length l - n) → take (n + k) (paste l n p k) ≡ take (length l) (take n l ++ p)
  kept_piece l n p k h e =
      let f : length l ≡ length (take n l) + (length l - n) = omega (arith, length-take-le n l h) in
      let g : min (length l - n) (length p) ≡ k = omega arith in
      let whole : take k p ≡ take (length l - n) p = ap (λ j. take j p) (sym g) ∙ take_min (length l - n) p in
      take-paste l n p k h (omega arith)
      ∙ rw whole (sym (take-append-add (take n l) p (length l - n)))
      ∙ ap (λ j. take j (take n l ++ p)) (sym f)

  -- o was written to the front of a buffer, and the rest of it stayed
  module _ (o room out : List A) (w : ℕ) (long : w ≡ length o) (bytes : out ≡ o ++ drop w room) where
    pub rest_stays : drop w out ≡ drop w room
    rest_stays = ap (drop w) bytes ∙ drop_at o (drop w room) w (sym long)

    pub wrote_more : (p : List A) (v : ℕ) → take w out ++ p ++ drop (w + v) out ≡ o ++ p ++ drop (w + v) room
    wrote_more p v =
        let front : take w out ≡ o = ap (take w) bytes ∙ take_at o (drop w room) w (sym long) in
        rw (front, ← drop-drop v w out, rest_stays, drop-drop v w room)

  -- ---- a buffer that held room, with s written to its front, w elements
  pub record Wrote (room s : List A) (w : ℕ) (out : List A) : Type 0 where
    pub count : w ≡ length s
    pub bytes : out ≡ s ++ drop w room

  pub wrote_le : {room s out : List A} {w : ℕ} → Wrote room s w out → w ≤ length out
  wrote_le {room} {s} {w = w} o = omega (arith, o.count, ap length o.bytes, length-append s (drop w room))

  -- t is put behind it
  pub wrote_put : {room s out : List A} {w : ℕ} → Wrote room s w out → (t : List A) → Wrote room (s ++ t) (w + length t) (put_at out w t)
  wrote_put {room} {s} {out} {w} o t = record {
    count = omega (arith, length-append s t, o.count);
    bytes = wrote_more s room out w o.count o.bytes t (length t);
  }

-- two puts, one behind the other
pub put_put : {A : Type 0} (out : List A) (at : ℕ) (s t : List A) → at + length s ≤ length out → put_at (put_at out at s) (at + length s) t ≡ put_at out at (s ++ t)
put_put out at s t h =
    let front : length (take at out ++ s) ≡ at + length s = length-append (take at out) s ∙ omega (arith, length-take-le at out (omega arith)) in
    let kept : take (at + length s) (put_at out at s) ≡ take at out ++ s = take_at (take at out ++ s) _ (at + length s) front in
    let left : drop (at + length s) (put_at out at s) ≡ drop (at + length s) out = drop_at (take at out ++ s) _ (at + length s) front in
    let sum : at + length s + length t ≡ at + length (s ++ t) = omega (arith, length-append s t) in
    rw (kept, ← drop-drop (length t) (at + length s) (put_at out at s), left, drop-drop (length t) (at + length s) out, sum, append_assoc (take at out) s t)
