-- `frames::job` meets its contract: the digits first, then the length that two bytes tell.
use Rattle.std.proofs.Common.{sym, ◌∙◌, eq-eqb, ne_eqb}
use Rattle.frames.specs.Read.{job_as}
use Rattle.frames.proofs.job.Goals as goal

pub returns-then-not-is_hexadecimal : goal.returns-then-not-is_hexadecimal
unfolding job_as
returns-then-not-is_hexadecimal c = rw (sym c.is_hexadecimal.ensures ∙ c.if-not-is_hexadecimal.true)

pub returns-then-line-least : goal.returns-then-line-least
unfolding job_as
returns-then-line-least c =
    rw (sym c.is_hexadecimal.ensures ∙ c.if-not-is_hexadecimal.false, ← c.byte-machines.ensures, ← c.byte-chares.ensures, eq-eqb _ _ c.if-line-least.true)

pub returns-else-line-least : goal.returns-else-line-least
unfolding job_as
returns-else-line-least c =
    rw (sym c.is_hexadecimal.ensures ∙ c.if-not-is_hexadecimal.false, ← c.byte-machines.ensures, ← c.byte-chares.ensures, ne_eqb _ _ c.if-line-least.false)
