-- The proved cases of document 02, Point 8: one table; proofs/Cases has the theorem.
use Rattle.std.specs.Prelude.{◌≡◌}
use Prim.Native.String.{String}
use Rattle.protocol.specs.Cases.Computing.{text}
use Rattle.crashsets.specs.CrashSets.{survivors}

-- what an input gets
abbrev pub Prints : String → String → Type 0
Prints input output = survivors (text input) ≡ text output

pub record Cases : Type 0 where
  -- "For two machines the lines are `1 2 2` and `2 1 0`."
  pub two_machines : Prints "0102010201010000\n" "1 2 2\n2 1 0\n"
  -- Point 7: "Buddy 00 now means the previous machine, M before 1": 1 with 4, 2 with 1, 3 and 4 with each other. With the next machine
  -- for 00, four pairs would be survived.
  pub previous_machine : Prints "01040100010403010000\n" "1 4 4\n2 6 3\n3 4 0\n4 1 0\n"
  -- six machines in pairs, and on a ring: document 002's formula gives 12 of 15 pairs, and 8 of 20 sets of three
  pub in_pairs : Prints "010601020104030605010000\n" "1 6 6\n2 15 12\n3 20 8\n4 15 0\n5 6 0\n6 1 0\n"
  pub on_a_ring : Prints "010601000000000000010000\n" "1 6 6\n2 15 9\n3 20 2\n4 15 0\n5 6 0\n6 1 0\n"
  -- "Only the first line is read"
  pub one_line : Prints "0102010201010000\n1401\n0102" "1 2 2\n2 1 0\n"
  pub no_newline : Prints "0102010201010000" "1 2 2\n2 1 0\n"
  pub nothing : Prints "" ""
  -- "one that is no acceptable job prints its number alone": no frame, another frame, a machine that is its own buddy
  pub garbled : Prints "01020102010100\n" "01\n"
  pub empty_line : Prints "\n0102010201010000\n" "01\n"
  pub no_job : Prints "1401\n" "02\n"
  pub bad_job : Prints "0102010101010000\n" "03\n"
