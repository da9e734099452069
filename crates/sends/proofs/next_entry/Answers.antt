use Rattle.std.specs.Prelude.{◌≡◌}
use Rattle.std.proofs.Common.{◌∙◌, arith}
use Rattle.sends.specs.WorkFrame.{none_next}
use Rattle.memory.specs.View.{memory_view, table_part}
use Rattle.protocol.specs.Working.{next_entry}
use Rattle.sends.proofs.next_entry.Goals as goal

pub returns-in_err-tn : goal.returns-in_err-tn
returns-in_err-tn c =
    let last : (memory_view c.args.m.now).height ≡ 65535 = omega (arith, c.height.ensures, c.in_err-tn.ensures) in
    rw c.from_residual.ensures (none_next c.args.m.now last)

pub returns : goal.returns
returns c =
    unfold next_entry in
    c.find_tn.ensures ∙ rw (c.in_ok-tn.ensures.1, c.height.ensures, table_part c.args.m.now)
