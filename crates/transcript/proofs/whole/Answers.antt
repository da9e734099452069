-- `whole` writes the transcript of an input, as far as there is room.
use Rattle.std.specs.Prelude.{◌+◌, is_ok}
use Rattle.std.proofs.Common.{subst, sym, ap}
use Rattle.transcript.specs.{Ends.{whole_short, whole_long}, Reading.Reading, View.{Feeding, zeros_read, written_of}}
use Rattle.transcript.proofs.whole.Goals as goal

pub returns-then-taken-input : goal.returns-then-taken-input
returns-then-taken-input c =
    let f = c.feed-len in
    whole_short _ _ _ _ _ _ (subst (λ (r : Reading). Feeding r c.args.input.now c.args.out.now f.result f.new.s f.new.line f.new.out) zeros_read f.ensures) c.if-taken-input.true

pub returns-in-Ok : goal.returns-in-Ok
returns-in-Ok c =
    let f = c.feed-len in
    whole_long _ _ _ _ _ _ (subst (λ (r : Reading). Feeding r c.args.input.now c.args.out.now f.result f.new.s f.new.line f.new.out) zeros_read f.ensures) c.if-taken-input.false _ _ _ _ c.finish.ensures _ (ap is_ok (sym c.in-Ok.is)) (ap (λ e. f.result.written + written_of e) (sym c.in-Ok.is))

pub returns-in-Err : goal.returns-in-Err
returns-in-Err c =
    let f = c.feed-len in
    whole_long _ _ _ _ _ _ (subst (λ (r : Reading). Feeding r c.args.input.now c.args.out.now f.result f.new.s f.new.line f.new.out) zeros_read f.ensures) c.if-taken-input.false _ _ _ _ c.finish.ensures _ (ap is_ok (sym c.in-Err.is)) (ap (λ e. f.result.written + written_of e) (sym c.in-Err.is))
