-- The head of the store: job, statuses, copies held, targets, one word each. Any contents count: a number out of range counts as the
-- largest in range.
use Rattle.std.specs.Prelude.{Bool, cond, not, ◌||◌, List, [], ◌∷◌, ℕ, ◌+◌, min, eqb, get_or}
use Rattle.lists.specs.Questions.{Question, ◌asks◌}
use Rattle.arrays.specs.ArrayMap.{as_map}
use Rattle.protocol.specs.{declared.Status.Status, declared.Status.TheVariants.{Up, Down, CatchingUp}, Frames.between, Parts.{Job, is_down}}
use Rattle.words.specs.Part.{part}

-- where each part begins: the constants of src/, under the same names
abbrev pub SET : ℕ
SET = 0

abbrev pub LOST : ℕ
LOST = 1

abbrev pub MACHINES : ℕ
MACHINES = 2

abbrev pub CHARES : ℕ
CHARES = 3

abbrev pub BUDDY : ℕ
BUDDY = 4

abbrev pub STATUS : ℕ
STATUS = BUDDY + 7

abbrev pub HELD : ℕ
HELD = STATUS + 7

abbrev pub HOME : ℕ
HOME = HELD + 7

abbrev pub FIRST : ℕ
FIRST = HOME + 13

abbrev pub SECOND : ℕ
SECOND = FIRST + 13

abbrev pub TARGET : ℕ
TARGET = SECOND + 13

abbrev pub HEAD : ℕ
HEAD = TARGET + 13

-- an array as a total map with numbers up to m: 0 at 0 and past the end
unfoldable pub cell : ℕ → List ℕ → ℕ → ℕ
cell m l k = cond (eqb k 0) 0 (min (get_or l k 0) m)

-- h is a head, or a store that begins with one
unfoldable pub job_of : List ℕ → Job
job_of h = record {
  set = eqb (get_or (part 0 4 h) SET 0) 1;
  machines = min (get_or (part 0 4 h) MACHINES 0) 6;
  chares = min (get_or (part 0 4 h) CHARES 0) 12;
  buddy = cell 6 (part BUDDY 7 h);
  home = cell 6 (part HOME 13 h);
  first = cell 12 (part FIRST 13 h);
  second = cell 12 (part SECOND 13 h);
}

unfoldable pub lost_of : List ℕ → Bool
lost_of h = eqb (get_or (part 0 4 h) LOST 0) 1

unfoldable pub as_status : ℕ → Status
as_status w = cond (eqb w 0) Up (cond (eqb w 1) Down CatchingUp)

unfoldable pub status_of : List ℕ → ℕ → Status
status_of h p = as_status (as_map 0 (part STATUS 7 h) p)

unfoldable pub held_of : List ℕ → ℕ → Bool
held_of h p = eqb (as_map 0 (part HELD 7 h) p) 1

unfoldable pub target_of : List ℕ → ℕ → ℕ
target_of h c = as_map 0 (part TARGET 13 h) c

-- machine p is up; the desk's, 0, always
unfoldable pub runs : (ℕ → Status) → ℕ → Bool
runs status p = eqb p 0 || not (is_down (status p))

-- the questions 2 to 5 of a frame on chare c
unfoldable pub chare_asked : Job → Bool → (ℕ → Status) → ℕ → List Question
chare_asked j lost status c = 2 asks j.set ∷ 3 asks between 1 j.chares c ∷ 4 asks not lost ∷ 5 asks runs status (j.home c) ∷ []
