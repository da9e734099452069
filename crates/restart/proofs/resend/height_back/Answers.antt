-- `height_back` reads the copy.
use Rattle.std.proofs.Common.{sym, ◌∙◌}
use Rattle.restart.specs.Stored.{copy_height}
use Rattle.restart.proofs.resend.height_back.Goals as goal

pub returns : goal.returns
returns c = c.height.ensures ∙ sym (copy_height c.args.s.now c.args.c c.requires)
