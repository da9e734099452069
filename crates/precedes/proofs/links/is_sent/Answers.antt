-- `links::is_sent` meets its contract.
use Rattle.std.proofs.Common.{eq-eqb, ne_eqb, ◌∙◌}
use Rattle.precedes.specs.Links.{sent_by, is_found}
use Rattle.precedes.proofs.links.is_sent.Goals as goal

pub returns-then-sender-eq0 : goal.returns-then-sender-eq0
returns-then-sender-eq0 c = unfold sent_by in rw (eq-eqb _ 0 c.if-sender-eq0.true)

pub returns : goal.returns
returns c = unfold sent_by in rw (ne_eqb _ 0 c.if-sender-eq0.false) (c.is_some.ensures ∙ is_found _ c.find.ensures.is c.find.ensures.from_one)
