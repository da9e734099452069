-- `head::first_no` meets its contract: question by question.
use Rattle.lists.specs.Questions.{first_no}
use Rattle.head.proofs.first_no.Goals as goal

pub returns-then-not-set : goal.returns-then-not-set
unfolding first_no
returns-then-not-set c = rw c.if-not-set.true

pub returns-then-not-in_range : goal.returns-then-not-in_range
unfolding first_no
returns-then-not-in_range c = rw (c.if-not-set.false, c.if-not-in_range.true)

pub returns-then-lost : goal.returns-then-lost
unfolding first_no
returns-then-lost c = rw (c.if-not-set.false, c.if-not-in_range.false, c.if-lost.true)

pub returns-then-not-up : goal.returns-then-not-up
unfolding first_no
returns-then-not-up c = rw (c.if-not-set.false, c.if-not-in_range.false, c.if-lost.false, c.if-not-up.true)

pub returns-else-not-up : goal.returns-else-not-up
unfolding first_no
returns-else-not-up c = rw (c.if-not-set.false, c.if-not-in_range.false, c.if-lost.false, c.if-not-up.false)
