-- `write_report`: by the frame that the line is.
use Rattle.std.specs.Prelude.{◌≡◌, ◌≢◌}
use Rattle.std.proofs.Common.{sym, ap, ◌∙◌, rules}
use Rattle.frames.specs.declared.Frame.TheVariants.{Job}
use Rattle.protocol.specs.Numbers.{number}
use Rattle.crashsets.specs.First.{said, first_said, no_job_said, wrote_number}
use Rattle.crashsets.proofs.write_report.Goals as goal
use Rattle.crashsets.proofs.write_report.Goals.{in-None, in-Some-Job-2, in-Some}

pub write_counts-requires : goal.write_counts-requires
write_counts-requires c = record { line_value = sym c.job_in_range.ensures ∙ c.if-job_in_range.true; in_bounds = c.requires }

pub returns-in-Some-Job : goal.returns-in-Some-Job
unfolding said
returns-in-Some-Job c =
    rw (first_said _ _ c.read.ensures, c.in-Some-Job.is, c.in-Some-Job.field-0-is, sym c.job_in_range.ensures ∙ c.if-job_in_range.true) c.write_counts.ensures

pub returns : goal.returns
unfolding said
returns c =
    let wrote = wrote_number c.number.result _ _ _ c.print.ensures.count c.print.ensures.bytes in
    elim c.match-read.branch [
      | in-None w ↦
          let n : c.number.result ≡ 1 = c.number.ensures ∙ ap number w.refusal-is in
          rw (first_said _ _ c.read.ensures, w.in-None.is) (rw n at wrote)
      | in-Some-Job-2 w ↦
          let n : c.number.result ≡ 3 = c.number.ensures ∙ ap number w.refusal-is in
          rw (first_said _ _ c.read.ensures, w.in-Some-Job.is, w.in-Some-Job.field-0-is, sym w.job_in_range.ensures ∙ w.if-job_in_range.false) (rw n at wrote)
      | in-Some w ↦
          let n : c.number.result ≡ 2 = c.number.ensures ∙ ap number w.refusal-is in
          let other : w.in-Some.field-0 ≢ Job = search rules in
          rw (first_said _ _ c.read.ensures, w.in-Some.is, no_job_said c.args.line.now w.in-Some.field-0 other) (rw n at wrote)
    ]
