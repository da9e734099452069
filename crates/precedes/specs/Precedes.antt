-- Document 02, Point 12: "What came before what."
use Rattle.std.specs.Prelude.{◌≡◌, Bool, true, false, cond, ◌&&◌, List, [], ◌∷◌, ◌++◌, ℕ, ◌+◌, ◌<◌, eqb, leb, ltb, length}
use Rattle.lists.specs.Lists.{◌∈◌, anyb, keep}
use Rattle.precedes.specs.{declared.Processing.Processing, declared.Answer.Answer, declared.Answer.TheVariants.{Bad, Unknown, Yes, No}}

-- a processing is named by its chare and its TN
abbrev pub Name : Type 0
Name = ℕ × ℕ

-- "each with chare, TN, ..."
unfoldable pub name : Processing → Name
name p = (p.chare, p.tn)

-- "... sender, and the sender's TN at which the message was sent": the processing that sent the message
unfoldable pub origin : Processing → Name
origin p = (p.sender, p.sender_tn)

unfoldable pub named : Name → Processing → Bool
named n p = eqb p.chare n.0 && eqb p.tn n.1

unfoldable pub stands : Name → List Processing → Bool
stands n row = anyb (named n) row

-- how many records of a chare stand in a row
unfoldable pub count : ℕ → List Processing → ℕ
count c row = length (keep (λ p. eqb p.chare c) row)

-- "a chare outside 1 to 12 or a sender outside 0 to 12"
unfoldable pub in_range : Processing → Bool
in_range p = leb 1 p.chare && leb p.chare 12 && leb p.sender 12

-- "names a sending record not standing earlier, gives the desk a TN other than 0"
unfoldable pub sender_known : List Processing → Processing → Bool
sender_known earlier p = cond (eqb p.sender 0) (eqb p.sender_tn 0) (stands (origin p) earlier)

-- "has a chare's TNs not ascending by 1 from 1"
unfoldable pub tn_next : List Processing → Processing → Bool
tn_next earlier p = eqb p.tn (count p.chare earlier + 1)

-- "or goes past 512"
unfoldable pub has_room : List Processing → Bool
has_room earlier = ltb (length earlier) 512

-- a record may stand behind the earlier ones
unfoldable pub good : List Processing → Processing → Bool
good earlier p = has_room earlier && in_range p && sender_known earlier p && tn_next earlier p

-- "the place of the first such record, counted from 1"; 0 where no record is bad
unfoldable pub first_bad : List Processing → List Processing → ℕ
first_bad earlier [] = 0
first_bad earlier (p ∷ later) = cond (good earlier p) (first_bad (earlier ++ (p ∷ [])) later) (length earlier + 1)

unfoldable pub bad_place : List Processing → ℕ
bad_place row = first_bad [] row

-- "One processing precedes another ..."
pub data Chain (row : List Processing) : Name → Name → Type 0 where
  -- "on the same chare with a higher TN,"
  on_chare : {a b : Name} → stands a row ≡ true → stands b row ≡ true → a.0 ≡ b.0 → a.1 < b.1 → Chain row a b
  -- "or through the processing that sent its message,"
  through_sender : (p : Processing) → p ∈ row → stands (origin p) row ≡ true → Chain row (origin p) (name p)
  -- "or through a chain of such steps."
  through : {a b c : Name} → Chain row a b → Chain row b c → Chain row a c

-- The right answer to whether a precedes b: "bad with the place", "after that ... unknown", and "yes exactly when a chain exists"
unfoldable pub Right : List Processing → Name → Name → Answer → Type 0
Right row a b (Bad place) = (0 < place) × (bad_place row ≡ place)
Right row a b Unknown = (bad_place row ≡ 0) × ((stands a row && stands b row) ≡ false)
Right row a b Yes = (bad_place row ≡ 0) × ((stands a row && stands b row) ≡ true) × Chain row a b
Right row a b No = (bad_place row ≡ 0) × ((stands a row && stands b row) ≡ true) × (Chain row a b → ⊥)

-- each answer as one number, for callers in C
unfoldable pub number : Answer → ℕ
number (Bad place) = 1000 + place
number Unknown = 2
number Yes = 1
number No = 0
