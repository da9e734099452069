-- `head::status` meets its contract: word by word.
use Rattle.std.proofs.Common.{sym, ◌∙◌, ne_eqb, arith}
use Rattle.head.specs.Head.{as_status, status_of}
use Rattle.head.proofs.status.Goals as goal

pub returns-in-0 : goal.returns-in-0
unfolding status_of as_status
returns-in-0 c = rw (sym c.word.ensures ∙ c.in-0.is)

pub returns-in-1 : goal.returns-in-1
unfolding status_of as_status
returns-in-1 c = rw (sym c.word.ensures ∙ c.in-1.is)

pub returns-in_default : goal.returns-in_default
unfolding status_of as_status
returns-in_default c = rw (← c.word.ensures, ne_eqb c.word.result 0 (λ e. omega arith), ne_eqb c.word.result 1 (λ e. omega arith))
