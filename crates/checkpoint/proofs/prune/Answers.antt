-- `checkpoint::prune` meets its contract: the table is the row that the memory lends.
use Rattle.std.specs.Prelude.{map}
use Rattle.std.proofs.Common.{◌∙◌, arith, rules}
use Rattle.lists.specs.Lists.{keep}
use Rattle.protocol.specs.{Tickets.mark_noted, Checkpoint.{above_height, pruned}}
use Rattle.memory.specs.View.{table_changed}
use Rattle.checkpoint.proofs.prune.Goals as goal

pub returns : goal.returns
unfolding pruned
returns c =
    let h = c.height-h in
    table_changed c.args.m.now c.prune.new.ws c.requires (omega arith) (λ l. map mark_noted (keep (above_height h.result) l)) c.prune.ensures.row.items ∙ rw h.ensures
