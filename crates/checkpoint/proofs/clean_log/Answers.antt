-- `checkpoint::clean_log` meets its contract: the log is the row that the memory lends.
use Rattle.std.proofs.Common.{arith, rules}
use Rattle.arrays.specs.ArrayMap.{as_map}
use Rattle.lists.specs.Lists.{keep}
use Rattle.logs.specs.Log.{is_kept}
use Rattle.memory.specs.View.{log_changed}
use Rattle.checkpoint.specs.Parts.{cleaned}
use Rattle.checkpoint.proofs.clean_log.Goals as goal

pub returns : goal.returns
unfolding cleaned
returns c =
    log_changed c.args.m.now c.clean.new.ws c.requires (omega arith) (keep (is_kept (as_map 0 c.args.limits.now))) c.clean.ensures.row.items
