-- `opening::start_chare` meets its contract: the memory, then its copy.
use Rattle.opening.specs.States.{both_started}
use Rattle.opening.proofs.start_chare.Goals as goal

pub returns : goal.returns
returns c =
    both_started _ c.told-s _ c.requires _ _ c.write_state.auto.m c.write_state-2.auto.m c.write_state.ensures c.write_state-2.ensures
