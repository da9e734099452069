-- No frame has more than 1,023 bytes: a line of more than 2,046 characters is refused with 1.
use Rattle.std.specs.Prelude.{true, not, ◌&&◌, List, [], ◌∷◌, ◌≡◌, refl, ℕ, zero, suc, ◌<◌, ◌≤◌, ◌%◌, eqb, leb, length, get_or, take}
use Rattle.std.proofs.Common.{inl, inr, sym, ap, ◌∙◌, arith, leb-true, eqb-true, length-take, take_all}
use Rattle.std.proofs.Math.Option.{none}
use Rattle.lists.specs.{Lists.allb, Tests.{either, lt?, and_l, and_r}}
use Rattle.protocol.specs.{declared.Answer.TheVariants.Refused, Parts.State}
use Rattle.protocol.specs.{Frames.{Line, least, least_length, exact_length, is_whole, frame_of, frame}, Step.{step, step_frame}}
use Rattle.frames.specs.{Decode.{decoded, is_hexadecimal}, DecodeLaws.{length_decoded, bytes_decoded, byte_small}}

none_above : (m : ℕ) (l : List ℕ) → allb (λ x. leb x m) l ≡ true → (k : ℕ) → get_or l k 0 ≤ m
unfolding allb
none_above m [] e k = omega arith
none_above m (x ∷ l) e zero = leb-true x m (and_l (leb x m) (allb (λ x. leb x m) l) e)
none_above m (x ∷ l) e (suc k) = none_above m l (and_r (leb x m) (allb (λ x. leb x m) l) e) k

module _ (l : Line) where
  -- a whole frame has at most 3 + 255 + 3 * 255 bytes
  exact_small : exact_length (decoded l) ≤ 1023
  unfolding exact_length least_length least allb
  exact_small =
      either (eqb (get_or (decoded l) 0 0) 1)
      (λ e. rw e (omega (arith, byte_small l 1, byte_small l 2)))
      (λ e. rw e (omega (arith, none_above 6 least refl (get_or (decoded l) 0 0))))

  exact : is_whole (decoded l) ≡ true → length (decoded l) ≡ exact_length (decoded l)
  unfolding is_whole
  exact e = eqb-true _ _ (and_r (not (eqb (least_length (get_or (decoded l) 0 0)) 0) && leb (least_length (get_or (decoded l) 0 0)) (length (decoded l))) _ e)

  even : is_hexadecimal l ≡ true → length l % 2 ≡ 0
  unfolding is_hexadecimal
  even e = eqb-true _ 0 (and_l _ _ e)

  no_frame : 2046 < length l → frame l ≡ none
  unfolding frame frame_of
  no_frame h =
      either (is_hexadecimal l)
      (λ e.
      either (is_whole (decoded l))
      (λ f. absurd (omega (arith, even e, length_decoded l, exact_small, exact f)))
      (λ f. rw (bytes_decoded l, e, f)))
      (λ e. rw (bytes_decoded l, e))

pub long_line : (s : State) (l : Line) → 2046 < length l → step s l ≡ record { state = s; answer = Refused 1 }
unfolding step step_frame
long_line s l h = rw (no_frame l h)

-- so the first 2,047 characters of a line, or more, are judged as the line is
pub cut_line : (s : State) (n : ℕ) (l : Line) → 2046 < n → step s (take n l) ≡ step s l
cut_line s n l long = elim (lt? n (length l)) [
  | inl h ↦ long_line s (take n l) (omega (arith, length-take n l)) ∙ sym (long_line s l (omega arith))
  | inr h ↦ ap (step s) (take_all n l h)
]
