-- Chares start with their numbers as states, one after the other.
use Rattle.std.specs.Prelude.{◌≡◌, refl, cond, List, [], ◌∷◌, ℕ, ◌+◌, ◌-◌, ◌<◌, ◌≤◌, length, set}
use Rattle.std.proofs.Common.{sym, ap, ◌∙◌, arith, mod-eq_of_lt}
use Rattle.lists.specs.Map.{upd}
use Rattle.protocol.specs.{Parts.{Memory, State}, Setters.with_memory, Frames.between}
use Rattle.protocol.proofs.{Recovery.Frames.Job.true_between}
use Rattle.frames.specs.Range.{between_low, between_high}
use Rattle.words.specs.Part.{part, put, part_length}
use Rattle.memory.specs.{Places.{STATE, MEMORY}, View.memory_view}
use Rattle.store.specs.{Places.{STORE, live_from, copy_from}, View.view, ViewLaws.{copy_at, live_changed, live_length, copy_put, with_copy}}
use Rattle.settle.specs.Sweep.{front, above, front_start, front_put, front_end}

abbrev pub with_state : Memory → ℕ → Memory
with_state m v = record { state = v; height = m.height; sn = m.sn; mark = m.mark; window = m.window; highest_at_restart = m.highest_at_restart; table = m.table; log = m.log }

pub state_set : (ws : List ℕ) (x : ℕ) → length ws ≡ MEMORY → x < 4294967296 → memory_view (set ws STATE x) ≡ with_state (memory_view ws) x
unfolding memory_view
state_set [] x size small = absurd (omega arith)
state_set (w ∷ ws) x size small = rw (mod-eq_of_lt small)

-- ---- chare c
unfoldable pub started : State → ℕ → State
started s c = with_copy (with_memory s c (with_state (s.live c) c)) c (with_state (s.copy c) c)

-- ---- the chares 1 to n
unfoldable pub named : ℕ → (ℕ → Memory) → ℕ → Memory
named n f c = cond (between 1 n c) (with_state (f c) c) (f c)

abbrev with_both : State → (ℕ → Memory) → (ℕ → Memory) → State
with_both s l k = record { job = s.job; lost = s.lost; status = s.status; target = s.target; live = l; held = s.held; copy = k; notes = s.notes; wire = s.wire }

unfoldable pub all_started : State → ℕ → State
all_started s n = with_both s (named n s.live) (named n s.copy)

-- the loop has passed those below k
unfoldable pub below : State → ℕ → ℕ → State
below s n k = with_both s (front k (named n s.live) s.live) (front k (named n s.copy) s.copy)

module _ (n : ℕ) (f : ℕ → Memory) where
  named_start : f ≡ front 1 (named n f) f
  unfolding named
  named_start = front_start 1 (named n f) f (λ j h. rw (between_low 1 n j h))

  named_more : (c : ℕ) → 1 ≤ c → c ≤ n → upd c (with_state (front c (named n f) f c) c) (front c (named n f) f) ≡ front (c + 1) (named n f) f
  unfolding named
  named_more c h g = front_put c (named n f) f _ refl _ (rw (above c (named n f) f c (omega arith), true_between 1 n c h g))

  named_end : (k : ℕ) → n + 1 ≤ k → front k (named n f) f ≡ named n f
  unfolding named
  named_end k h = front_end k (named n f) f _ refl k (omega arith) (λ j g. rw (between_high 1 n j (omega arith)))

module _ (s : State) (n : ℕ) where
  pub below_start : s ≡ below s n 1
  unfolding below
  below_start = λ i. with_both s (named_start n s.live i) (named_start n s.copy i)

  pub below_more : (c : ℕ) → 1 ≤ c → c ≤ n → started (below s n c) c ≡ below s n (c + 1)
  unfolding below started
  below_more c h g = λ i. with_both s (named_more n s.live c h g i) (named_more n s.copy c h g i)

  pub below_end : (k : ℕ) → n + 1 ≤ k → below s n k ≡ all_started s n
  unfolding below all_started
  below_end k h = λ i. with_both s (named_end n s.live k h i) (named_end n s.copy k h i)

-- ---- as the code goes: the memory, then its copy. A lent part is as long as from one end to the other.
abbrev span : ℕ → ℕ
span a = (a + MEMORY) - a

pub both_started : (xs : List ℕ) → length xs ≡ STORE → (c : ℕ) → c < 13 → (ys zs : List ℕ)
    → length ys ≡ length (part (live_from c) (span (live_from c)) xs)
    → length zs ≡ length (part (copy_from c) (span (copy_from c)) (put (live_from c) (span (live_from c)) xs ys))
    → memory_view ys ≡ with_state (memory_view (part (live_from c) (span (live_from c)) xs)) c
    → memory_view zs ≡ with_state (memory_view (part (copy_from c) (span (copy_from c)) (put (live_from c) (span (live_from c)) xs ys))) c
    → view (put (copy_from c) (span (copy_from c)) (put (live_from c) (span (live_from c)) xs ys) zs) ≡ started (view xs) c
unfolding started
both_started xs size c h ys zs ly lz ey ez =
    let xs1 = put (live_from c) MEMORY xs ys in
    let e : span (live_from c) ≡ MEMORY = omega arith in
    let f : span (copy_from c) ≡ MEMORY = omega arith in
    let ky : length ys ≡ MEMORY = (rw e at ly) ∙ part_length (live_from c) MEMORY xs (omega arith) in
    let kz : length zs ≡ MEMORY = (rw (e, f) at lz) ∙ part_length (copy_from c) MEMORY xs1 (omega (arith, live_length xs size c h ys ky)) in
    let live : view xs1 ≡ with_memory (view xs) c (with_state ((view xs).live c) c) = live_changed xs size c h ys ky (λ m. with_state m c) (rw e at ey) in
    let copy : memory_view zs ≡ with_state ((view xs1).copy c) c = (rw (e, f) at ez) ∙ ap (λ m. with_state m c) (sym (copy_at xs1 c h)) in
    rw (e, f)
    (copy_put xs1 (live_length xs size c h ys ky) c h zs kz
    ∙ ap (with_copy (view xs1) c) copy
    ∙ ap (λ v. with_copy v c (with_state (v.copy c) c)) live)
