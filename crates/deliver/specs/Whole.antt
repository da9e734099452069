-- Frame 11 as a whole, in place: refused by its first questions, the packet missing, or found and brought to where it goes.
use Rattle.std.specs.Prelude.{◌≡◌, refl, Bool, cond, List, [], ◌∷◌, ℕ, ◌<◌, eqb, leb, length, Option, None, Some}
use Rattle.std.proofs.Common.{sym, ap, ◌∙◌, ⊎_elim, arith, eqb-true, leb-true}
use Rattle.std.proofs.Math.Option.{some}
use Rattle.lists.specs.{Tests.{either, and_r, and4, split, lt?}, Lists.{find, find_some, remove1}, Questions.{first_no, first_no_yes}}
use Rattle.protocol.specs.{declared.Answer.Answer, declared.Answer.TheVariants.Refused, declared.Packet.Packet, declared.Content.TheVariants.Note as NOTE, Packets.{kind, is_named}}
use Rattle.protocol.specs.{Frames.between, Questions.on_wire}
use Rattle.words.specs.{Part.part, Rows.{without, without_none}}
use Rattle.head.specs.{Head.{job_of, lost_of, status_of}, HeadLaws.chares_top}
use Rattle.packets.specs.{Words.packets, Fits.sought_fits, View.{found, sought, sought_packet, sought_left}, declared.Found.Found}
use Rattle.store.specs.{Places.{WIRE, PACKETS}, View.{view, Framed}, ViewLaws.wire_at, Framing.refuses}
use Rattle.deliver.specs.{Effect.place_of, Frame.{in_range, first_questions, Waits, chare_outcome, note_outcome}}
use Rattle.deliver.specs.{Judged.{the_outcome, firsts, refused_first, refused_missing, judged_chare, judged_note}}

-- ---- what is found stands at a place
module _ {A : Type 0} (q : A → Bool) where
  remove1_length : (l : List A) {x : A} → find q l ≡ some x → length (remove1 q l) < length l
  unfolding find remove1
  remove1_length [] e = absurd (let z : ◌≡◌ {A = ℕ} 0 1 = cc in omega arith)
  remove1_length (x ∷ l) e = either (q x)
      (λ f. rw f (omega arith))
      (λ f. rw f (let h = remove1_length l (rw f at e) in omega arith))

  found_inside : (l : List A) {x : A} (at : ℕ) → find q l ≡ some x → remove1 q l ≡ without at l → at < length l
  found_inside l at e left = ⊎_elim
      (λ h. h)
      (λ h. absurd (let z : length (remove1 q l) ≡ length l = ap length (left ∙ without_none l at h) in omega (arith, remove1_length l e)))
      (lt? at (length l))

module _ (xs : List ℕ) (k a r n : ℕ) (no : ℕ) (first : no ≡ first_no (first_questions (job_of xs) (lost_of xs) (status_of xs) k a r n)) where
  seen : no ≡ firsts (view xs) k a r n
  unfolding view
  seen = first

  pub frame_refused : (no ≡ 0 → ⊥) → Framed xs xs (Refused no) (the_outcome (view xs) k a r n)
  frame_refused h = refuses xs no (rw seen (refused_first (view xs) k a r n (λ e. h (seen ∙ e))))

  module _ (clear : no ≡ 0) where
    -- the place of a packet of this name is a chare: both numbers in range are
    pub place_fits : cond (eqb k 2) a r < 13
    unfolding first_questions in_range between
    place_fits =
        let range = (first_no_yes (first_questions (job_of xs) (lost_of xs) (status_of xs) k a r n) refl (sym first ∙ clear)).1.0 in
        let j = job_of xs in
        let f = and4 (between 1 5 k) (leb a j.chares) (between 1 j.chares r) (between 1 60000 n) range in
        let x : a < 13 = omega (arith, chares_top xs, leb-true a j.chares f.1) in
        let y : r < 13 = omega (arith, chares_top xs, leb-true r j.chares (and_r (leb 1 r) _ f.2)) in
        split (λ b. cond b a r < 13) (eqb k 2) (λ _. x) (λ _. y)

    module _ (f : Option Found) (finds : f ≡ sought (is_named k a r n) (packets (part WIRE PACKETS xs))) where
      on_wire_is : found f ≡ on_wire (view xs) k a r n
      unfolding on_wire
      on_wire_is = sought_packet _ _ finds ∙ ap (find (is_named k a r n)) (sym (wire_at xs))

      pub frame_missing : f ≡ None → Framed xs xs (Refused 6) (the_outcome (view xs) k a r n)
      unfolding found
      frame_missing e = refuses xs 6 (refused_missing (view xs) k a r n (sym seen ∙ clear) (sym on_wire_is ∙ ap found e))

      module _ {at : ℕ} {p : Packet} (got : f ≡ Some (record { place = at; packet = p })) where
        on_wire_it : on_wire (view xs) k a r n ≡ some p
        unfolding found
        on_wire_it = sym on_wire_is ∙ ap found got

        left : remove1 (is_named k a r n) (view xs).wire ≡ without at (view xs).wire
        left = rw (wire_at xs) (sought_left _ _ (sym got ∙ finds))

        pub waiting : Waits (view xs) at p
        unfolding on_wire
        waiting = record { fits = sought_fits (part WIRE PACKETS xs) (is_named k a r n) (sym got ∙ finds); here = found_inside (is_named k a r n) (view xs).wire at on_wire_it left }

        place_named : cond (eqb k 2) a r ≡ place_of p p.content
        unfolding on_wire is_named place_of
        place_named =
            let g = and4 (eqb (kind p.content) k) (eqb p.sender a) (eqb p.receiver r) (eqb p.sn n) (find_some (is_named k a r n) (view xs).wire on_wire_it).1 in
            rw (eqb-true (kind p.content) k g.0, eqb-true p.sender a g.1, eqb-true p.receiver r g.2)

        module _ (ys : List ℕ) (y : Answer) where
          pub to_chare : ((t : ℕ) → p.content ≡ NOTE t → ⊥) → (c : ℕ) → c ≡ cond (eqb k 2) a r → Framed xs ys y (chare_outcome (view xs) c at p) → Framed xs ys y (the_outcome (view xs) k a r n)
          to_chare other c e f = rw (judged_chare (view xs) k a r n (sym seen ∙ clear) on_wire_it at left other c (e ∙ place_named)) at f

          pub to_notes : {t : ℕ} → p.content ≡ NOTE t → Framed xs ys y (note_outcome (view xs) at p t) → Framed xs ys y (the_outcome (view xs) k a r n)
          to_notes is-note f = rw (judged_note (view xs) k a r n (sym seen ∙ clear) on_wire_it at left is-note) at f
