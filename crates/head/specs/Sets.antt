-- One word of a head set: the part that has it says so, the others say what they said.
use Rattle.std.specs.Prelude.{List, [], ◌∷◌, ◌≡◌, refl, Bool, ℕ, ◌+◌, ◌<◌, ◌≤◌, eqb, length, set}
use Rattle.std.proofs.Common.{ap, ◌∙◌, arith}
use Rattle.std.proofs.Math.Path.{fun_ext}
use Rattle.lists.specs.{Tests.either, Map.upd}
use Rattle.arrays.specs.ArrayMap.{as_map, map_set}
use Rattle.protocol.specs.declared.Status.{Status}
use Rattle.words.specs.{Part.{part, part_length}, PartSet.{part_set, part_apart}}
use Rattle.head.specs.{Head.{HEAD, LOST, BUDDY, STATUS, HELD, HOME, FIRST, SECOND, TARGET, job_of, lost_of, as_status, status_of, held_of, target_of}, Kept.Says}

-- a map of a map, changed at one key
pub over : {A B : Type 0} (f : A → B) (k : ℕ) (v : A) (g : ℕ → A) → (λ i. f (upd k v g i)) ≡ upd k (f v) (λ i. f (g i))
unfolding upd
over f k v g = fun_ext (λ i. either (eqb i k) (λ e. rw e) (λ e. rw e))

pub set_lost : (xs : List ℕ) (w : ℕ) → HEAD ≤ length xs → Says (set xs LOST w) (job_of xs) (eqb w 1) (status_of xs) (held_of xs) (target_of xs)
unfolding job_of lost_of status_of held_of target_of
set_lost [] w long = absurd (omega arith)
set_lost (_ ∷ []) w long = absurd (omega arith)
set_lost (_ ∷ _ ∷ xs) w long = record { job = refl; lost = refl; status = refl; held = refl; target = refl }

-- words read by f
abbrev read : {A : Type 0} → (ℕ → A) → List ℕ → ℕ → A
read f l i = f (as_map 0 l i)

module _ (xs : List ℕ) (w : ℕ) where
  -- the words of a part: one of them is set, or none
  module _ {A : Type 0} (f : ℕ → A) (b j : ℕ) where
    here : (k : ℕ) → k < j → b + j ≤ length xs → read f (part b j (set xs (b + k) w)) ≡ upd k (f w) (read f (part b j xs))
    here k h fits =
        ap (read f) (part_set b j xs w k h)
        ∙ ap (λ g i. f (g i)) (map_set 0 (part b j xs) k w (omega (arith, part_length b j xs fits)))
        ∙ over f k w (as_map 0 (part b j xs))

    elsewhere : (i : ℕ) → (b ≤ i → i < b + j → ⊥) → read f (part b j (set xs i w)) ≡ read f (part b j xs)
    elsewhere i n = ap (read f) (part_apart b j xs w i n)

  -- a word that is none of the job's
  job_kept : (i : ℕ) → STATUS ≤ i → (HOME ≤ i → i < TARGET → ⊥) → {s : ℕ → Status} {h : ℕ → Bool} {t : ℕ → ℕ}
      → status_of (set xs i w) ≡ s → held_of (set xs i w) ≡ h → target_of (set xs i w) ≡ t → Says (set xs i w) (job_of xs) (lost_of xs) s h t
  unfolding job_of lost_of
  job_kept i low other s h t = record {
    job = rw (
      part_apart 0 4 xs w i (λ p q. omega arith),
      part_apart BUDDY 7 xs w i (λ p q. omega arith),
      part_apart HOME 13 xs w i (λ p q. other (omega arith) (omega arith)),
      part_apart FIRST 13 xs w i (λ p q. other (omega arith) (omega arith)),
      part_apart SECOND 13 xs w i (λ p q. other (omega arith) (omega arith)),
    );
    lost = rw (part_apart 0 4 xs w i (λ p q. omega arith));
    status = s;
    held = h;
    target = t;
  }

  module _ (long : HEAD ≤ length xs) where
    pub set_status : (p : ℕ) → p < 7 → Says (set xs (STATUS + p) w) (job_of xs) (lost_of xs) (upd p (as_status w) (status_of xs)) (held_of xs) (target_of xs)
    unfolding status_of held_of target_of
    set_status p h = job_kept (STATUS + p) (omega arith) (λ a b. omega arith) (here as_status STATUS 7 p h (omega arith))
        (elsewhere (λ v. eqb v 1) HELD 7 (STATUS + p) (λ a b. omega arith)) (elsewhere (λ v. v) TARGET 13 (STATUS + p) (λ a b. omega arith))

    pub set_held : (p : ℕ) → p < 7 → Says (set xs (HELD + p) w) (job_of xs) (lost_of xs) (status_of xs) (upd p (eqb w 1) (held_of xs)) (target_of xs)
    unfolding status_of held_of target_of
    set_held p h = job_kept (HELD + p) (omega arith) (λ a b. omega arith) (elsewhere as_status STATUS 7 (HELD + p) (λ a b. omega arith))
        (here (λ v. eqb v 1) HELD 7 p h (omega arith)) (elsewhere (λ v. v) TARGET 13 (HELD + p) (λ a b. omega arith))

    pub set_target : (c : ℕ) → c < 13 → Says (set xs (TARGET + c) w) (job_of xs) (lost_of xs) (status_of xs) (held_of xs) (upd c w (target_of xs))
    unfolding status_of held_of target_of
    set_target c h = job_kept (TARGET + c) (omega arith) (λ a b. omega arith) (elsewhere as_status STATUS 7 (TARGET + c) (λ a b. omega arith))
        (elsewhere (λ v. eqb v 1) HELD 7 (TARGET + c) (λ a b. omega arith)) (here (λ v. v) TARGET 13 c h (omega arith))
