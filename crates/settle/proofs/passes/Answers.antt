-- `settle::passes` meets its contract: a chare elsewhere passes.
use Rattle.std.proofs.Common.{sym, ◌∙◌}
use Rattle.store.specs.View.{view}
use Rattle.settle.specs.Done.{passes}
use Rattle.settle.proofs.passes.Goals as goal

pub returns-then-not-on : goal.returns-then-not-on
unfolding passes view
returns-then-not-on c = rw (c.if-not-on.true, sym c.on.ensures ∙ c.if-not-on.true)

pub returns-else-not-on : goal.returns-else-not-on
unfolding passes view
returns-else-not-on c = rw (sym c.on.ensures ∙ c.if-not-on.false) c.has_caught_up.ensures
