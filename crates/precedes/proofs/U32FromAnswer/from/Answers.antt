-- An answer as a number: by its cases.
use Rattle.precedes.specs.Precedes.{number}
use Rattle.precedes.proofs.U32FromAnswer.from.Goals as goal

pub returns-in-Bad : goal.returns-in-Bad
unfolding number
returns-in-Bad c = rw c.in-Bad.is

pub returns-in-Unknown : goal.returns-in-Unknown
unfolding number
returns-in-Unknown c = rw c.in-Unknown.is

pub returns-in-Yes : goal.returns-in-Yes
unfolding number
returns-in-Yes c = rw c.in-Yes.is

pub returns-in-No : goal.returns-in-No
unfolding number
returns-in-No c = rw c.in-No.is
