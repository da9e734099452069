-- Where each part of the store begins: the constants of src/, under the same names.
use Rattle.std.specs.Prelude.{ℕ, ◌+◌, ◌*◌}
use Rattle.head.specs.Head.{HEAD}
use Rattle.memory.specs.Places.{MEMORY}

abbrev pub LIVE : ℕ
LIVE = HEAD

abbrev pub COPY : ℕ
COPY = LIVE + 13 * MEMORY

abbrev pub NOTES : ℕ
NOTES = COPY + 13 * MEMORY

abbrev pub NOTELIST : ℕ
NOTELIST = 65

abbrev pub WIRE : ℕ
WIRE = NOTES + 7 * NOTELIST

abbrev pub PACKETS : ℕ
PACKETS = 129

abbrev pub STORE : ℕ
STORE = WIRE + PACKETS

-- the memory of chare c, its copy, and the notes kept for machine p
abbrev pub live_from : ℕ → ℕ
live_from c = LIVE + c * MEMORY

abbrev pub copy_from : ℕ → ℕ
copy_from c = COPY + c * MEMORY

abbrev pub notes_from : ℕ → ℕ
notes_from p = NOTES + p * NOTELIST
