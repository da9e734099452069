-- `frames::read` meets its contract: the kind decides, then the length, then the digits behind the kind.
use Rattle.std.specs.Prelude.{refl, length}
use Rattle.std.proofs.Common.{◌∙◌}
use Rattle.protocol.specs.Frames.{least, least_length}
use Rattle.frames.specs.{ReadLaws.{frame_short, frame_no_kind, frame_unknown, frame_job, frame_length, frame_behind}, Read.Sized}
use Rattle.frames.proofs.read.Goals as goal

pub returns-then-line-lt2 : goal.returns-then-line-lt2
returns-then-line-lt2 c = frame_short _ c.if-line-lt2.true

pub returns-in_err-kind : goal.returns-in_err-kind
returns-in_err-kind c = c.from_residual.ensures ∙ frame_no_kind c.args.line.now c.if-line-lt2.false c.in_err-kind.ensures

pub returns-then-kind-gt23 : goal.returns-then-kind-gt23
returns-then-kind-gt23 c = let x = c.in_ok-kind.ensures in frame_unknown _ _ c.if-line-lt2.false x.0 x.1 c.if-kind-gt23.true

pub returns-then-kind-eq1 : goal.returns-then-kind-eq1
unfolding least_length least
returns-then-kind-eq1 c =
    let x = c.in_ok-kind.ensures in
    c.job.ensures ∙ frame_job _ _ c.if-line-lt2.false x.0 x.1 c.if-kind-gt23.false _ refl c.if-kind-eq1.true

pub returns-then-line-least : goal.returns-then-line-least
unfolding least_length least
returns-then-line-least c =
    let x = c.in_ok-kind.ensures in
    frame_length _ _ c.if-line-lt2.false x.0 x.1 c.if-kind-gt23.false _ refl c.if-kind-eq1.false c.if-line-least.true

pub fields-requires : goal.fields-requires
unfolding least_length least
fields-requires c =
    record { some_pair = c.if-line-lt2.false; known = c.if-kind-gt23.false; other = c.if-kind-eq1.false; exact = c.if-line-least.false }

pub returns : goal.returns
unfolding least_length least
returns c =
    let x = c.in_ok-kind.ensures in
    let sized : Sized (length c.args.line.now) c.in_ok-kind.kind = record { some_pair = c.if-line-lt2.false; known = c.if-kind-gt23.false; other = c.if-kind-eq1.false; exact = c.if-line-least.false } in
    c.fields.ensures ∙ frame_behind _ _ c.if-line-lt2.false x.0 x.1 sized
