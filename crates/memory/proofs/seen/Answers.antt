use Rattle.std.proofs.Common.{◌∙◌, rules}
use Rattle.protocol.specs.Window.{look}
use Rattle.memory.proofs.seen.Goals as goal

pub returns : goal.returns
returns c = c.look.ensures ∙ (λ i. look (c.mark-k.ensures i) (c.window-w.ensures i) c.args.sn)
