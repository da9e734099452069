-- `head::judge_chare` meets its contract: by what the four tests ensure.
use Rattle.std.proofs.Common.{◌∙◌}
use Rattle.head.specs.Head.{chare_asked}
use Rattle.head.proofs.judge_chare.Goals as goal

pub returns : goal.returns
unfolding chare_asked
returns c =
    c.first_no.ensures ∙ rw (c.is_set.ensures, c.is_chare.ensures, c.is_lost.ensures, c.is_up.ensures, c.home-p.ensures.is)
