-- The proved cases of document 02, Point 12: one table; proofs/Cases has the theorem.
use Rattle.std.specs.Prelude.{◌≡◌, List, [], ◌∷◌, ℕ}
use Rattle.precedes.specs.{declared.Processing.Processing, declared.Answer.TheVariants.{Bad, Unknown, Yes, No}}
use Rattle.precedes.specs.Precedes.{bad_place, Right}

-- chare, TN, sender, the sender's TN
abbrev pub p : ℕ → ℕ → ℕ → ℕ → Processing
p c t s u = record { chare = c; tn = t; sender = s; sender_tn = u }

-- the desk starts chares 1 and 3; 1 sends to 2, and 2 to 1 and to 4
abbrev pub row : List Processing
row = p 1 1 0 0 ∷ p 2 1 1 1 ∷ p 3 1 0 0 ∷ p 1 2 2 1 ∷ p 4 1 2 1 ∷ []

pub record Cases : Type 0 where
  -- ---- "is answered as bad with the place of the first such record"
  pub no_record : bad_place [] ≡ 0
  pub good_row : bad_place row ≡ 0
  -- "a chare outside 1 to 12 or a sender outside 0 to 12"
  pub chare_0 : bad_place (p 0 1 0 0 ∷ []) ≡ 1
  pub chare_12 : bad_place (p 12 1 0 0 ∷ []) ≡ 0
  pub chare_13 : bad_place (p 13 1 0 0 ∷ []) ≡ 1
  pub sender_13 : bad_place (p 1 1 0 0 ∷ p 1 2 13 1 ∷ []) ≡ 2
  -- "names a sending record not standing earlier": none, itself, one that stands later, and TN 0 of a chare
  pub not_there : bad_place (p 1 1 0 0 ∷ p 2 1 1 2 ∷ []) ≡ 2
  pub sent_by_itself : bad_place (p 1 1 1 1 ∷ []) ≡ 1
  pub sent_later : bad_place (p 1 1 2 1 ∷ p 2 1 0 0 ∷ []) ≡ 1
  pub chare_at_0 : bad_place (p 1 1 0 0 ∷ p 2 1 1 0 ∷ []) ≡ 2
  -- "gives the desk a TN other than 0"
  pub desk_at_1 : bad_place (p 1 1 0 1 ∷ []) ≡ 1
  -- "has a chare's TNs not ascending by 1 from 1": from 0, from 2, one left out, one twice
  pub from_0 : bad_place (p 1 0 0 0 ∷ []) ≡ 1
  pub from_2 : bad_place (p 1 2 0 0 ∷ []) ≡ 1
  pub left_out : bad_place (p 1 1 0 0 ∷ p 1 3 0 0 ∷ []) ≡ 2
  pub twice : bad_place (p 1 1 0 0 ∷ p 1 1 0 0 ∷ []) ≡ 2
  -- the first of two
  pub first_of_two : bad_place (p 1 1 0 0 ∷ p 1 3 0 0 ∷ p 2 1 0 0 ∷ p 13 1 0 0 ∷ []) ≡ 2
  -- ---- "After that, a pair of which one is not in the row is answered as unknown"
  pub bad_first : Right (p 0 1 0 0 ∷ []) (1, 1) (1, 1) (Bad 1)
  pub one_unknown : Right row (1, 1) (1, 3) Unknown
  pub other_unknown : Right row (5, 1) (1, 1) Unknown
  -- ---- "yes exactly when a chain exists"
  pub same_chare : Right row (1, 1) (1, 2) Yes
  pub sender : Right row (1, 1) (2, 1) Yes
  pub two_steps : Right row (1, 1) (4, 1) Yes
  pub itself : Right row (1, 1) (1, 1) No
  pub backward : Right row (1, 2) (1, 1) No
  pub beside : Right row (1, 1) (3, 1) No
