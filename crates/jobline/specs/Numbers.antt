-- The numbers that a job's line has of a chare.
use Rattle.std.specs.Prelude.{◌≡◌, refl, cond, List, ℕ}
use denote.Enum.Declared.{tag_of}
use Rattle.protocol.specs.Job.{has_chare, chare_byte}
use Rattle.jobline.specs.declared.Number.{Number}
use Rattle.jobline.specs.declared.Number.TheVariants.{Home, First, Second}
use Rattle.jobline.specs.contracts.Number.{the_type}

-- which of the three it is
abbrev pub place_of : Number → ℕ
place_of Home = 0
place_of First = 1
place_of Second = 2

-- the code says it by `as u8`
pub place_is : (w : Number) → tag_of the_type w ≡ place_of w
place_is Home = refl
place_is First = refl
place_is Second = refl

-- the i-th number of chare c, 0 where there is no such chare
unfoldable pub number_of : List ℕ → ℕ → ℕ → ℕ
number_of b i c = cond (has_chare b c) (chare_byte b c i) 0
