-- `settle::settle_machine` meets its contract: done, or not.
use Rattle.std.proofs.Common.{sym, ◌∙◌, arith}
use Rattle.protocol.specs.Restart.{settle_machine}
use Rattle.head.specs.Head.{as_status}
use Rattle.store.specs.ViewLaws.{status_set}
use Rattle.settle.proofs.settle_machine.Goals as goal

pub returns-then-is_done : goal.returns-then-is_done
unfolding settle_machine as_status
returns-then-is_done c =
    c.drop_targets.ensures ∙ rw (status_set c.args.s.now c.told-s 0 c.args.p (omega arith), sym c.is_done.ensures ∙ c.if-is_done.true)

pub returns-else-is_done : goal.returns-else-is_done
unfolding settle_machine
returns-else-is_done c = rw (sym c.is_done.ensures ∙ c.if-is_done.false)
