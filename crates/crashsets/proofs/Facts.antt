-- What readers of the counts may expect of them: all sets are counted, as many as the binomial says; one crash is survived, and the crash
-- of all machines is not.
use Rattle.std.specs.Prelude.{◌≡◌, refl, Bool, true, false, List, [], ◌∷◌, ℕ, zero, suc, ◌^◌, ◌≤◌, length, eqb}
use Rattle.std.proofs.Common.{sym, ap, ◌∙◌, inl, inr, arith, eq-eqb, ne_eqb, eqb-true, length-append, pow-suc}
use Rattle.std.proofs.Math.Path.{fun_ext}
use Rattle.std.proofs.lemmas.Bool.{not-true}
use Rattle.std.proofs.lemmas.List.{length-map}
use mathlib.Core.List.Memᴰ.{head as here}
use Rattle.lists.specs.{Tests.{either, eq?, true_not_false}, Lists.{◌∈◌, allb, allb_true, anyb, anyb_true, keep, keep_append, keep_map, keep_mem, keep_all, keep_none, mem_map, map_mem}}
use Rattle.protocol.specs.{Parts.Job, Job.{machines_of, job_in_range, job_of}}
use Rattle.protocol.proofs.{Recovery.Frames.Job.{machine_known, job_ok}}
use Rattle.crashsets.specs.{CrashSets.{sets, has_size, stands, survives, total, survived}, Machines.{some, few, buddy_low, buddy_high}}
use mathlib.Core.List.Memᴰ
use Rattle.crashsets.specs.Facts.{chosen, choose, of_size}

-- ---- every choice of machines is a set, and there are 2^M sets
pub every_set : (m : ℕ) (c : ℕ → Bool) → chosen m c ∈ sets m
unfolding chosen sets
every_set zero c = here refl
every_set (suc m) c = either (c (suc m))
    (λ e. rw e (Memᴰ.append_right (sets m) (map_mem (suc m ∷◌) (every_set m c))))
    (λ e. rw e (Memᴰ.append_left _ (every_set m c)))

pub number_of_sets : (m : ℕ) → length (sets m) ≡ 2 ^ m
unfolding sets
number_of_sets zero = refl
number_of_sets (suc m) = length-append (sets m) _ ∙ rw (length-map, number_of_sets m, pow-suc 2 m) (omega arith)

-- ---- "the number of sets of f machines" is Pascal's
next_size : (f : ℕ) (x : ℕ) (s : List ℕ) → has_size (suc f) (x ∷ s) ≡ has_size f s
unfolding has_size
next_size f x s = elim (eq? (length s) f) [
  | inl e ↦ rw (eq-eqb (length s) f e, eq-eqb (suc (length s)) (suc f) (omega arith))
  | inr n ↦ rw (ne_eqb (length s) f n, ne_eqb (suc (length s)) (suc f) (λ e. n (omega arith)))
]

with_none : (m : ℕ) → keep (λ s. has_size 0 (suc m ∷ s)) (sets m) ≡ []
unfolding has_size
with_none m = keep_none _ (sets m) (λ s i. ne_eqb (suc (length s)) 0 (λ e. omega arith))

pub sets_of_size : (m f : ℕ) → length (of_size f m) ≡ choose m f
unfolding sets keep choose
sets_of_size zero zero = unfold has_size in refl
sets_of_size zero (suc f) = unfold has_size in rw (ne_eqb 0 (suc f) (λ e. omega arith))
sets_of_size (suc m) zero =
    rw (keep_append (has_size 0) (sets m), length-append, keep_map (suc m ∷◌) (has_size 0) (sets m), with_none m) (omega (arith, sets_of_size m 0))
sets_of_size (suc m) (suc f) =
    let others : (λ s. has_size (suc f) (suc m ∷ s)) ≡ has_size f = fun_ext (next_size f (suc m)) in
    rw (keep_append (has_size (suc f)) (sets m), length-append, keep_map (suc m ∷◌) (has_size (suc f)) (sets m), others, length-map)
    (omega (arith, sets_of_size m (suc f), sets_of_size m f))

pub total_choose : (j : Job) (f : ℕ) → total j f ≡ choose j.machines f
unfolding total
total_choose j f = sets_of_size j.machines f

-- ---- the machines of a set
members : (m : ℕ) {s : List ℕ} → s ∈ sets m → (p : ℕ) → p ∈ s → (1 ≤ p) × (p ≤ m)
unfolding sets
members zero i p k = elim (Memᴰ.cases_cons i) [ inl e ↦ absurd (Memᴰ.not-nil (rw e at k)) | inr n ↦ absurd (Memᴰ.not-nil n) ]
members (suc m) i p k = elim (Memᴰ.append_cases (sets m) i) [
  | inl h ↦ let g = members m h p k in (g.0, omega arith)
  | inr h ↦
      let (t, u, e) = mem_map (suc m ∷◌) (sets m) h in
      elim (Memᴰ.cases_cons (rw (sym e) at k)) [
        | inl q ↦ (omega arith, omega arith)
        | inr v ↦ let g = members m u p v in (g.0, omega arith)
      ]
]

size_le : (m : ℕ) {s : List ℕ} → s ∈ sets m → length s ≤ m
unfolding sets
size_le zero i = elim (Memᴰ.cases_cons i) [ inl e ↦ rw e (omega arith) | inr n ↦ absurd (Memᴰ.not-nil n) ]
size_le (suc m) i = elim (Memᴰ.append_cases (sets m) i) [
  | inl h ↦ let g = size_le m h in omega arith
  | inr h ↦ let (t, u, e) = mem_map (suc m ∷◌) (sets m) h in let g = size_le m u in rw (sym e) (omega arith)
]

-- a set of all machines: each stands in it
all_stand : (m : ℕ) {s : List ℕ} → s ∈ sets m → length s ≡ m → (p : ℕ) → 1 ≤ p → p ≤ m → stands s p ≡ true
unfolding sets stands anyb
all_stand zero i e p l h = absurd (omega arith)
all_stand (suc m) {s} i e p l h = elim (Memᴰ.append_cases (sets m) i) [
  | inl g ↦ absurd (omega (arith, size_le m g))
  | inr g ↦
      let (t, u, q) = mem_map (suc m ∷◌) (sets m) g in
      let size : length t ≡ m = (let k = ap length q in omega arith) in
      elim (eq? p (suc m)) [
        | inl d ↦ rw (sym q, eq-eqb p (suc m) d)
        | inr n ↦ rw (sym q, ne_eqb p (suc m) n) (all_stand m u size p l (omega arith))
      ]
]

stands_mem : (s : List ℕ) (p : ℕ) → stands s p ≡ true → p ∈ s
unfolding stands
stands_mem s p e = let (q, i, h) = anyb_true (eqb p) s e in let d = eqb-true p q h in rw d i

-- ---- of a job that is accepted
module _ (b : List ℕ) (good : job_in_range b ≡ true) where
  abbrev j : Job
  j = job_of b

  is_all : j.machines ≡ machines_of b
  unfolding job_of
  is_all = refl

  -- no machine is its own buddy, so one crash is always survived
  single : (s : List ℕ) → s ∈ of_size 1 j.machines → survives j s ≡ true
  unfolding has_size survives allb stands anyb
  single [] i = absurd (let h = (keep_mem (has_size 1) (sets j.machines) i).1 in true_not_false h refl)
  single (p ∷ []) i =
      let k = members j.machines (keep_mem (has_size 1) (sets j.machines) i).0 p (here refl) in
      let apart = (job_ok b good).buddies p (machine_known p k.0 (omega (arith, few b good, is_all))) in
      rw (ne_eqb (j.buddy p) p apart)
  single (p ∷ q ∷ s) i = absurd (let h = (keep_mem (has_size 1) (sets j.machines) i).1 in let e : suc (suc (length s)) ≡ 1 = eqb-true _ 1 h in omega arith)

  pub one_crash : survived j 1 ≡ total j 1
  unfolding survived total
  one_crash = rw (keep_all (survives j) (of_size 1 j.machines) single)

  -- machine 1 crashes together with its buddy
  whole : (s : List ℕ) → s ∈ of_size j.machines j.machines → survives j s ≡ false
  unfolding has_size survives
  whole s i =
      let (h, e) = keep_mem (has_size j.machines) (sets j.machines) i in
      let stand = all_stand j.machines h (eqb-true _ j.machines e) in
      let one : 1 ≤ machines_of b = omega (arith, some b good) in
      either (survives j s)
      (λ f.
      let none = allb_true _ s f 1 (stands_mem s 1 (stand 1 (omega arith) (omega (arith, is_all)))) in
      let its = stand (j.buddy 1) (buddy_low b good 1 (omega arith) one) (omega (arith, is_all, buddy_high b good 1 (omega arith) one)) in
      true_not_false its (not-true _ none))
      (λ f. f)

  pub all_crash : survived j j.machines ≡ 0
  unfolding survived
  all_crash = rw (keep_none (survives j) (of_size j.machines j.machines) whole)
