-- When a word is a note: its lowest fields, SN, receiver and sender, in one number, and its TN.
use Rattle.std.specs.Prelude.{◌≡◌, refl, Bool, true, false, ◌&&◌, List, [], ◌∷◌, map, ℕ, ◌+◌, ◌*◌, ◌/◌, ◌%◌, ◌<◌, eqb}
use Rattle.std.specs.List.{list_any}
use Rattle.std.proofs.Common.{sym, ap, ◌∙◌, arith, eqb-true, eq-eqb}
use Rattle.std.proofs.lemmas.Bool.{eqb-false}
use Rattle.lists.specs.{Tests.{either, and4}, Lists.anyb}
use Rattle.arrays.specs.Place.{none_there}
use Rattle.protocol.specs.{declared.Note.Note, Packets.{same_note, has_note}}
use Rattle.words.specs.Rows.{PEER, OWNER, row}
use Rattle.item.specs.{Item.{KIND, item_of}, Held.held_never}
use Rattle.notelist.specs.Notes.{note_of, as_note, notes}

module _ (x : Note) (w : ℕ) where
  -- not the same, because not all four numbers can be
  pub differs : (x.sender ≡ (item_of w).owner → x.receiver ≡ (item_of w).peer → x.sn ≡ (item_of w).sn → x.tn ≡ (item_of w).tn → ⊥) → same_note x (note_of w) ≡ false
  unfolding same_note note_of as_note
  differs d = either (same_note x (note_of w))
      (λ e. let (s, r, n, t) = and4 (eqb x.sender (item_of w).owner) _ _ _ e in absurd (d (eqb-true _ _ s) (eqb-true _ _ r) (eqb-true _ _ n) (eqb-true _ _ t)))
      (λ e. e)

  pub same_word : x.sn < 65536 → x.receiver < 16 → x.sender < 16 → w % KIND ≡ x.sn + PEER * x.receiver + OWNER * x.sender → (item_of w).tn ≡ x.tn → same_note x (note_of w) ≡ true
  unfolding same_note note_of as_note item_of
  same_word hn hr hs e t =
      let a : x.sender ≡ w / OWNER % 16 = omega arith in
      let b : x.receiver ≡ w / PEER % 16 = omega arith in
      let c : x.sn ≡ w % PEER = omega arith in
      rw (eq-eqb _ _ a, eq-eqb _ _ b, eq-eqb _ _ c, eq-eqb _ _ (sym t))

  pub other_name : (w % KIND ≡ x.sn + PEER * x.receiver + OWNER * x.sender → ⊥) → same_note x (note_of w) ≡ false
  unfolding item_of
  other_name d = differs (λ s r n t. d (omega arith))

-- what is asked of a word
abbrev pub asked : Note → ℕ → Bool
asked x w = eqb (w % KIND) (x.sn + PEER * x.receiver + OWNER * x.sender) && eqb (item_of w).tn x.tn

module _ (x : Note) (hn : x.sn < 65536) (hr : x.receiver < 16) (hs : x.sender < 16) where
  asked_is : (w : ℕ) → asked x w ≡ same_note x (note_of w)
  asked_is w = either (eqb (w % KIND) (x.sn + PEER * x.receiver + OWNER * x.sender))
      (λ e. either (eqb (item_of w).tn x.tn)
      (λ t. rw (e, t) (sym (same_word x w hn hr hs (eqb-true _ _ e) (eqb-true _ _ t))))
      (λ t. rw (e, t) (sym (differs x w (λ s r n q. eqb-false _ _ t (sym q))))))
      (λ e. rw e (sym (other_name x w (eqb-false _ _ e))))

  -- the words where they stand, and the notes
  pub asked_any : (ws ns : List ℕ) → ns ≡ row ws → list_any (asked x) ns ≡ has_note (notes ws) x
  unfolding has_note notes anyb
  asked_any ws ns e = go ns ∙ ap (λ l. anyb (same_note x) (map note_of l)) e
    where
      go : (l : List ℕ) → list_any (asked x) l ≡ anyb (same_note x) (map note_of l)
      go [] = refl
      go (w ∷ l) = rw (asked_is w, go l)

-- a note that no word can be is in no list
pub nowhere : (x : Note) (ws : List ℕ) → ((w : ℕ) → same_note x (note_of w) ≡ false) → false ≡ has_note (notes ws) x
unfolding has_note notes
nowhere x ws h = sym (none_there (same_note x) (notes ws) (held_never note_of (same_note x) h (row ws)))
