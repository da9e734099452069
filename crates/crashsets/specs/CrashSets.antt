-- Document 02, Point 8: "How many crash sets are survived."
use Rattle.std.specs.Prelude.{Bool, cond, not, List, [], ◌∷◌, ◌++◌, map, ℕ, zero, suc, ◌+◌, ◌/◌, ◌%◌, eqb, ltb, length}
use Rattle.lists.specs.{Lists.{allb, anyb, keep, gather}, Counting.counting}
use Rattle.protocol.specs.{declared.Answer.Answer, declared.Answer.TheVariants.{Accepted, Shown, Lost, Refused}}
use Rattle.protocol.specs.{Parts.{Job, start}, Frames.Line, Lines.{newline, lines, line}, Step.{Outcome, step}}

-- every set of the machines 1 to M, each as the list of its machines: those without the last machine, and those with it
unfoldable pub sets : ℕ → List (List ℕ)
sets zero = [] ∷ []
sets (suc m) = sets m ++ map (suc m ∷◌) (sets m)

-- "sets of f machines"
unfoldable pub has_size : ℕ → List ℕ → Bool
has_size f s = eqb (length s) f

-- machine p stands in a set
unfoldable pub stands : List ℕ → ℕ → Bool
stands s p = anyb (eqb p) s

-- "no machine stands together with its buddy"
unfoldable pub survives : Job → List ℕ → Bool
survives j s = allb (λ p. not (stands s (j.buddy p))) s

-- "the number of sets of f machines"
unfoldable pub total : Job → ℕ → ℕ
total j f = length (keep (has_size f) (sets j.machines))

-- "and the number in which no machine stands together with its buddy"
unfoldable pub survived : Job → ℕ → ℕ
survived j f = length (keep (survives j) (keep (has_size f) (sets j.machines)))

-- "as decimal numbers": the digits of a number that has at most k + 1 of them
unfoldable pub decimals : ℕ → ℕ → List ℕ
decimals zero n = (48 + n) ∷ []
decimals (suc k) n = cond (ltb n 10) ((48 + n) ∷ []) (decimals k (n / 10) ++ ((48 + n % 10) ∷ []))

-- a number above 0 has at most as many digits as itself
unfoldable pub decimal : ℕ → List ℕ
decimal n = decimals n n

abbrev pub blank : ℕ
blank = 32

-- a number and the byte behind it
unfoldable pub field : ℕ → ℕ → List ℕ
field n behind = decimal n ++ (behind ∷ [])

-- "separated by single blanks, one line per f"
unfoldable pub count_line : ℕ → ℕ → ℕ → List ℕ
count_line f n k = field f blank ++ field n blank ++ field k newline

-- "For a job and each f from 1 to M, print f, ..."
unfoldable pub counts : Job → List ℕ
counts j = gather (λ f. count_line f (total j f) (survived j f)) (counting j.machines 1)

-- "one that is no acceptable job prints its number alone". Before any job nothing but a job is accepted.
unfoldable pub report : Job → Answer → List ℕ
report j (Refused n) = line (Refused n) ++ (newline ∷ [])
report j (Accepted r) = counts j
report j (Shown height state) = counts j
report j Lost = counts j

-- what a first line gets
unfoldable pub reported : Outcome → List ℕ
reported o = report o.state.job o.answer

-- "Only the first line is read"
unfoldable pub of_first : List Line → List ℕ
of_first [] = []
of_first (l ∷ ls) = reported (step start l)

-- the bytes of an input to the bytes printed
unfoldable pub survivors : List ℕ → List ℕ
survivors input = of_first (lines input)
