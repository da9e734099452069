-- What readers of the answers may expect of them: there is one right answer; what a chain joins stands in the row's order, so nothing
-- precedes itself; which record is the first bad one.
use Rattle.std.specs.Prelude.{◌≡◌, refl, false, List, [], ◌∷◌, ◌++◌, ℕ, zero, suc, ◌+◌, ◌<◌, ◌≤◌, length, take, drop}
use Rattle.std.proofs.Common.{sym, ap, ◌∙◌, inl, inr, arith, le-ltb, length-append, length-take-le}
use Rattle.lists.specs.Tests.{either, eq?, true_not_false}
use Rattle.precedes.specs.{declared.Processing.Processing, declared.Answer.Answer, declared.Answer.TheVariants.{Bad, Unknown, Yes, No}}
use Rattle.precedes.specs.Precedes.{Name, name, origin, has_room, good, first_bad, bad_place, Chain, on_chare, through_sender, through, Right}
use Rattle.precedes.specs.{Rows.{rec, Is, Good, stands_at, good_tn, good_chare, is_low, once}}
use Rattle.precedes.proofs.{Rows.{good_sender}, Chains.{named_in, end_stands, chain_forward}, Reading.{bad_start, bad_none, bad_next, bad_here, bad_past}}

-- ---- the place of the first bad record
-- as far as all are good, the search goes on
pub good_goes_on : (row : List Processing) (n : ℕ) → Good row n → bad_place row ≡ first_bad (take n row) (drop n row)
good_goes_on row zero g = bad_start row
good_goes_on row (suc n) g = good_goes_on row n (omega (arith, g.0), λ i l. g.1 i (omega arith)) ∙ bad_next row n (omega (arith, g.0)) (g.1 n (omega arith))

-- record n, counted from 0, is the first that is bad
pub first_is_told : (row : List Processing) (n : ℕ) → Good row n → n < length row → good (take n row) (rec row n) ≡ false → bad_place row ≡ n + 1
first_is_told row n g l b = good_goes_on row n g ∙ bad_here row n l b

-- "or goes past 512"
pub past_512 : (row : List Processing) → Good row 512 → 512 < length row → bad_place row ≡ 513
past_512 row g l = first_is_told row 512 g l (bad_past row 512 l (omega arith))

pub all_good : (row : List Processing) → Good row (length row) → bad_place row ≡ 0
all_good row g = good_goes_on row (length row) g ∙ bad_none row

-- ---- past 512 it does not matter what stands there: the right answer for the row with others in their place is right for the row
bad_long : (e xs : List Processing) (p q : Processing) (ps qs : List Processing) → length e + length xs ≡ 512
    → (0 < first_bad e (xs ++ (p ∷ ps))) × (first_bad e (xs ++ (p ∷ ps)) ≡ first_bad e (xs ++ (q ∷ qs)))
unfolding first_bad good has_room
bad_long e [] p q ps qs l = rw (le-ltb (length e) 512 (omega arith)) (omega arith, refl)
bad_long e (x ∷ xs) p q ps qs l = either (good e x)
    (λ g. rw g (bad_long (e ++ (x ∷ [])) xs p q ps qs (omega (arith, length-append e (x ∷ [])))))
    (λ g. rw g (omega arith, refl))

-- a list of more than n is n and one more and others
parted : (n : ℕ) (row : List Processing) → n < length row → (p : Processing) × (ps : List Processing) × (row ≡ take n row ++ (p ∷ ps))
parted zero [] h = absurd (omega arith)
parted zero (p ∷ row) h = (p, row, refl)
parted (suc n) [] h = absurd (omega arith)
parted (suc n) (p ∷ row) h = let r = parted n row (omega arith) in (r.0, r.1, ap (p ∷◌) r.2)

pub right_loaded : (row : List Processing) (q : Processing) (qs : List Processing) → 512 < length row → (a b : Name) (r : Answer) → Right (take 512 row ++ (q ∷ qs)) a b r → Right row a b r
unfolding Right bad_place
right_loaded row q qs h a b r right =
    let p = parted 512 row h in
    let l = bad_long [] (take 512 row) q p.0 qs p.1 (omega (arith, length-take-le 512 row (omega arith))) in
    past (l.0, l.1 ∙ sym (ap (first_bad []) p.2)) r right
  where
    past : (0 < bad_place (take 512 row ++ (q ∷ qs))) × (bad_place (take 512 row ++ (q ∷ qs)) ≡ bad_place row) → (r : Answer) → Right (take 512 row ++ (q ∷ qs)) a b r → Right row a b r
    past l (Bad k) h = (h.0, sym l.1 ∙ h.1)
    past l Unknown h = absurd (omega (arith, l.0, h.0))
    past l Yes h = absurd (omega (arith, l.0, h.0))
    past l No h = absurd (omega (arith, l.0, h.0))

-- and no bad record is passed over
good_up_to : (row : List Processing) (n : ℕ) → bad_place row ≡ 0 → n ≤ length row → Good row n
good_up_to row zero e l = (l, λ i h. absurd (omega arith))
good_up_to row (suc n) e l =
    let g = good_up_to row n e (omega arith) in
    let last = either (good (take n row) (rec row n)) (λ y. y) (λ b. absurd (omega (arith, e, first_is_told row n g l b))) in
    (l, λ i h. elim (eq? i n) [ inl s ↦ rw s last | inr d ↦ g.1 i (omega arith) ])

pub none_bad : (row : List Processing) → bad_place row ≡ 0 → Good row (length row)
none_bad row e = good_up_to row (length row) e (omega arith)

-- "the sender's TN ... (0 for the desk)": a chare does not send at TN 0
pub sent_at_0 : (row : List Processing) (i : ℕ) → Good row (length row) → i < length row → (rec row i).sender_tn ≡ 0 → (rec row i).sender ≡ 0
unfolding origin
sent_at_0 row i g l z = elim (good_sender row i (g.1 i l) (omega arith)) [
  | inl desk ↦ desk.0
  | inr r ↦ absurd (omega (arith, z, r.2.1, good_tn row r.0 (g.1 r.0 (omega (arith, r.1)))))
]

-- ---- a chain goes forward in the row (`chain_forward` in `Chains`)
module _ (row : List Processing) (g : Good row (length row)) where
  -- no processing precedes itself
  pub not_itself : (a : Name) → Chain row a a → ⊥
  not_itself a c = let i = stands_at a row (end_stands c) in omega (arith, chain_forward row g i.0 i.0 i.1 i.1 i.2 i.2 c)

  -- nor does a later record precede an earlier one
  pub not_back : (a b : Name) (i j : ℕ) → i < length row → j ≤ i → Is row i a → Is row j b → Chain row a b → ⊥
  not_back a b i j l h is js c = omega (arith, chain_forward row g i j l (omega arith) is js c)

  -- nothing precedes a chare's first processing if the desk sent its message
  pub first_from_desk : {a b : Name} (j : ℕ) → j < length row → Is row j b → b.1 ≡ 1 → (rec row j).sender ≡ 0 → Chain row a b → ⊥
  unfolding origin
  first_from_desk j h js one desk (on_chare {a = a} {b = b} f s e t) = let i = stands_at a row f in
      omega (arith, one, t, (is_low row (length row) g i.0 (length row) a i.1 (omega arith) i.2).0)
  first_from_desk j h js one desk (through_sender p m s) =
      let r = named_in row p m in
      let same = once row (length row) g j r.0 (name p) h r.1 js r.3 in
      let e : rec row j ≡ p = rw same r.2 in
      let i = stands_at (origin p) row s in
      omega (arith, (good_chare row i.0 (g.1 i.0 i.1)).0, i.2.0, ap (λ (x : Processing). x.sender) e, desk)
  first_from_desk j h js one desk (through c d) = first_from_desk j h js one desk d

-- ---- there is one right answer
pub one_answer : (row : List Processing) (a b : Name) (r q : Answer) → Right row a b r → Right row a b q → r ≡ q
unfolding Right
one_answer row a b (Bad k) (Bad m) h i = ap Bad (sym h.1 ∙ i.1)
one_answer row a b (Bad k) Unknown h i = absurd (omega (arith, h.0, h.1, i.0))
one_answer row a b (Bad k) Yes h i = absurd (omega (arith, h.0, h.1, i.0))
one_answer row a b (Bad k) No h i = absurd (omega (arith, h.0, h.1, i.0))
one_answer row a b Unknown (Bad m) h i = absurd (omega (arith, i.0, i.1, h.0))
one_answer row a b Unknown Unknown h i = refl
one_answer row a b Unknown Yes h i = true_not_false i.1 h.1
one_answer row a b Unknown No h i = true_not_false i.1 h.1
one_answer row a b Yes (Bad m) h i = absurd (omega (arith, i.0, i.1, h.0))
one_answer row a b Yes Unknown h i = true_not_false h.1 i.1
one_answer row a b Yes Yes h i = refl
one_answer row a b Yes No h i = absurd (i.2 h.2)
one_answer row a b No (Bad m) h i = absurd (omega (arith, i.0, i.1, h.0))
one_answer row a b No Unknown h i = true_not_false h.1 i.1
one_answer row a b No Yes h i = absurd (h.2 i.2)
one_answer row a b No No h i = refl
