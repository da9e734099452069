-- Where the parts of a memory begin: the constants of src/, under the same names.
use Rattle.std.specs.Prelude.{ℕ, ◌+◌}

abbrev pub STATE : ℕ
STATE = 0

abbrev pub HEIGHT : ℕ
HEIGHT = 1

abbrev pub TOP : ℕ
TOP = 2

abbrev pub NUMBERS : ℕ
NUMBERS = 3

abbrev pub SN : ℕ
SN = NUMBERS

abbrev pub MARK : ℕ
MARK = SN + 16

abbrev pub LOW : ℕ
LOW = MARK + 16

abbrev pub HIGH : ℕ
HIGH = LOW + 16

abbrev pub TABLE : ℕ
TABLE = HIGH + 16

abbrev pub ROW : ℕ
ROW = 17

abbrev pub LOG : ℕ
LOG = TABLE + ROW

abbrev pub MEMORY : ℕ
MEMORY = LOG + ROW
