-- `satuphir_finish` gives what `finish` gives, as a number; then no line is under way, or the one that was.
use Rattle.std.proofs.Common.{sym, ◌∙◌}
use Rattle.satuphir.proofs.satuphir_finish.Goals as goal
use Rattle.satuphir.proofs.satuphir_finish.Goals.{then-is_ok, else-is_ok}

pub returns : goal.returns
returns c =
    let f = c.finish-end in
    record {
      ended = f.result;
      ending = f.ensures;
      count = c.number.ensures;
      left = elim c.if-is_ok.branch [ then-is_ok w ↦ w.len-is ∙ rw (sym c.is_ok.ensures.value ∙ w.if-is_ok.true) | else-is_ok w ↦ w.len-is ∙ rw (sym c.is_ok.ensures.value ∙ w.if-is_ok.false) ];
    }
