-- A loop through the chares, or the machines, of a store that changes some of them: w says which, f what they become, g is the map before.
use Rattle.std.specs.Prelude.{◌≡◌, Bool, true, false, cond, List, [], ℕ, ◌+◌, ◌<◌, ◌≤◌, ltb, eqb, length, set}
use Rattle.std.proofs.Common.{sym, ◌∙◌, inl, inr, arith, lt-ltb, le-ltb, length-set}
use Rattle.std.proofs.Math.Path.{fun_ext}
use Rattle.lists.specs.{Tests.{either, lt?}, Map.{upd, upd_ind, upd_self}}
use Rattle.protocol.specs.{declared.Note.Note, Parts.blank, Setters.with_copies}
use Rattle.words.specs.{Part.put, Rows.row, Slots.slots}
use Rattle.head.specs.Head.{HELD}
use Rattle.notelist.specs.Notes.{notes}
use Rattle.memory.specs.Blank.{memory_none}
use Rattle.store.specs.{Places.{NOTELIST, STORE, notes_from}, View.view, ViewLaws.{held_set, notes_put, notes_length}}

module _ {A : Type 0} (w : ℕ → Bool) (f g : ℕ → A) where
  unfoldable pub chosen : ℕ → A
  chosen i = cond (w i) (f i) (g i)

  -- the loop has passed k
  unfoldable pub visited : ℕ → ℕ → A
  visited k i = cond (ltb i k) (chosen i) (g i)

  below : (k i : ℕ) → i < k → visited k i ≡ chosen i
  unfolding visited
  below k i h = rw (lt-ltb i k h)

  above : (k i : ℕ) → k ≤ i → visited k i ≡ g i
  unfolding visited
  above k i h = rw (le-ltb i k h)

  pub visit_none : g ≡ visited 0
  visit_none = fun_ext (λ i. sym (above 0 i (omega arith)))

  -- the one in hand is as it was
  pub visit_here : (k : ℕ) → visited k k ≡ g k
  visit_here k = above k k (omega arith)

  step : (k : ℕ) (v : A) → v ≡ chosen k → upd k v (visited k) ≡ visited (k + 1)
  step k v q = fun_ext (upd_ind (λ i x. x ≡ visited (k + 1) i) k v (visited k) (q ∙ sym (below (k + 1) k (omega arith))) (λ i n. elim (lt? i k) [
    | inl l ↦ below k i l ∙ sym (below (k + 1) i (omega arith))
    | inr l ↦ above k i l ∙ sym (above (k + 1) i (omega arith))
  ]))

  pub visit_hit : (k : ℕ) → w k ≡ true → (v : A) → v ≡ f k → upd k v (visited k) ≡ visited (k + 1)
  unfolding chosen
  visit_hit k e v q = step k v (q ∙ rw e)

  pub visit_miss : (k : ℕ) → w k ≡ false → visited k ≡ visited (k + 1)
  unfolding chosen
  visit_miss k e = sym (upd_self k (visited k)) ∙ step k (visited k k) (visit_here k ∙ rw e)

  -- the loop has passed all; from n on there is nothing to change
  pub visit_all : (k n : ℕ) → n ≤ k → ((i : ℕ) → n ≤ i → f i ≡ g i) → visited k ≡ chosen
  unfolding chosen
  visit_all k n h e = fun_ext (λ i. elim (lt? i k) [
    | inl l ↦ below k i l
    | inr l ↦ above k i l ∙ either (w i) (λ x. rw (x, e i (omega arith))) (λ x. rw x)
  ])

-- ---- past the last there is nothing
module _ (xs : List ℕ) (i : ℕ) where
  pub live_beyond : 13 ≤ i → (view xs).live i ≡ blank
  unfolding view slots
  live_beyond h = rw (le-ltb i 13 h) memory_none

  pub copy_beyond : 13 ≤ i → (view xs).copy i ≡ blank
  unfolding view slots
  copy_beyond h = rw (le-ltb i 13 h) memory_none

  pub notes_beyond : 7 ≤ i → (view xs).notes i ≡ []
  unfolding view slots notes row
  notes_beyond h = rw (le-ltb i 7 h)

-- ---- whether the copy of machine p is held, and its notes, put anew
module _ (xs : List ℕ) (size : length xs ≡ STORE) (p : ℕ) (h : p < 7) (w : ℕ) (ys : List ℕ) (long : length ys ≡ NOTELIST) where
  pub held_length : length (put (notes_from p) NOTELIST (set xs (HELD + p) w) ys) ≡ STORE
  held_length = notes_length (set xs (HELD + p) w) (simp length-set size) p h ys long

  pub held_put : (l : List Note) → notes ys ≡ l → view (put (notes_from p) NOTELIST (set xs (HELD + p) w) ys) ≡ with_copies (view xs) (upd p (eqb w 1) (view xs).held) (view xs).copy (upd p l (view xs).notes)
  held_put l e = notes_put (set xs (HELD + p) w) (simp length-set size) p h ys long ∙ rw (held_set xs size w p h, e)
