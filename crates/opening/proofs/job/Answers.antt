-- `opening::job` meets its contract: refused at the first "no", or begun.
use Rattle.std.proofs.Common.{sym, ◌∙◌, rules}
use Rattle.lists.specs.Questions.{put_all}
use Rattle.protocol.specs.{Questions.job_questions, Step.judged}
use Rattle.store.specs.{View.{view, tried, outcome}, Framing.{refuses, accepts}}
use Rattle.opening.proofs.job.Goals as goal

pub returns-then-is_set : goal.returns-then-is_set
unfolding tried judged put_all job_questions view
returns-then-is_set c = refuses _ 2 (rw (sym c.is_set.ensures ∙ c.if-is_set.true))

pub returns-then-not-job_in_range : goal.returns-then-not-job_in_range
unfolding tried judged put_all job_questions view
returns-then-not-job_in_range c =
    refuses _ 3 (rw (sym c.is_set.ensures ∙ c.if-is_set.false, sym c.job_in_range.ensures ∙ c.if-not-job_in_range.true))

pub returns-then-is_lost : goal.returns-then-is_lost
unfolding tried judged put_all job_questions view
returns-then-is_lost c =
    refuses _ 4
    (rw (sym c.is_set.ensures ∙ c.if-is_set.false, sym c.job_in_range.ensures ∙ c.if-not-job_in_range.false, sym c.is_lost.ensures ∙ c.if-is_lost.true))

pub begin-requires : goal.begin-requires
begin-requires c =
    sym c.job_in_range.ensures ∙ c.if-not-job_in_range.false

pub returns : goal.returns
unfolding tried judged put_all job_questions outcome view
returns c =
    accepts _ _
    (rw (sym c.is_set.ensures ∙ c.if-is_set.false, sym c.job_in_range.ensures ∙ c.if-not-job_in_range.false, sym c.is_lost.ensures ∙ c.if-is_lost.false, c.begin.ensures))
