-- `in_range` puts its tests one after the other.
use Rattle.std.specs.Prelude.{◌≡◌, ◌≤◌, refl, true, false, ◌<◌, ◌⊎◌}
use Rattle.std.proofs.Common.{sym, ap, ◌∙◌, ⊎_elim, rules, le-leb}
use Rattle.std.proofs.lemmas.Result.{err_from_is_err_and}
use Rattle.lists.specs.Questions.{first_no}
use Rattle.protocol.specs.{declared.Kind.Kind, declared.Kind.TheVariants.{Ask, Grant, Data, Note, Ack}, Frames.between, Numbers.kind_number}
use Rattle.frames.specs.Range.{between_low, between_high}
use Rattle.deliver.specs.Frame.{in_range}
use Rattle.deliver.proofs.in_range.Goals as goal
use Rattle.deliver.proofs.in_range.Goals.{else-is_sender-via-then-is_sender+then-is_chare+else-contains, else-is_sender-via-then-is_sender+else-is_chare, else-is_sender-via-else-is_sender}

-- a kind's number is one of five
kind_in : (k : Kind) → between 1 5 (kind_number k) ≡ true
unfolding between
kind_in Ask = refl
kind_in Grant = refl
kind_in Data = refl
kind_in Note = refl
kind_in Ack = refl

pub returns-in_err-try_from-clause-asked : goal.returns-in_err-try_from-clause-asked
unfolding first_no in_range
returns-in_err-try_from-clause-asked c =
    let p = err_from_is_err_and c.from_residual.result c.from_residual.ensures.1 in
    let out : between 1 5 c.args.kind ≡ false = ⊎_elim (between_low 1 5 c.args.kind) (between_high 1 5 c.args.kind) c.in_err-try_from.ensures.1 in
    rw (p.1, p.2, c.in_err-try_from.ensures.0, out)

pub returns-then-contains-clause-asked : goal.returns-then-contains-clause-asked
unfolding first_no in_range
returns-then-contains-clause-asked c =
    let kind = ap (between 1 5) (sym c.in_ok-try_from.ensures) ∙ kind_in _ in
    let low : 1 ≤ c.args.sn = search rules in
    let high : c.args.sn ≤ 60000 = search rules in
    let sn : between 1 60000 c.args.sn ≡ true = unfold between in rw (le-leb 1 _ low, le-leb _ 60000 high) in
    rw (kind, ← c.is_sender.ensures, c.if-is_sender.true, ← c.is_chare.ensures, c.if-is_chare.true, sn)

pub returns-else-is_sender-clause-asked : goal.returns-else-is_sender-clause-asked
unfolding first_no in_range
returns-else-is_sender-clause-asked c =
    let kind = ap (between 1 5) (sym c.in_ok-try_from.ensures) ∙ kind_in _ in
    rw (kind, ← c.is_sender.ensures) (elim c.else-is_sender.branch [
      | else-is_sender-via-then-is_sender+then-is_chare+else-contains w ↦
          let out : (c.args.sn < 1) ⊎ (60000 < c.args.sn) = search rules in
          let sn : between 1 60000 c.args.sn ≡ false = ⊎_elim (between_low 1 60000 c.args.sn) (between_high 1 60000 c.args.sn) out in
          rw (w.if-is_sender.true, ← w.is_chare.ensures, w.if-is_chare.true, sn)
      | else-is_sender-via-then-is_sender+else-is_chare w ↦ rw (w.if-is_sender.true, ← w.is_chare.ensures, w.if-is_chare.false)
      | else-is_sender-via-else-is_sender w ↦ rw w.if-is_sender.false
    ])
