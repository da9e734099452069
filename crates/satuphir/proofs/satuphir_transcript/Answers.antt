-- `satuphir_transcript` counts what `whole` writes.
use Rattle.std.specs.Prelude.{◌≡◌}
use Rattle.std.proofs.Common.{rules}
use Rattle.transcript.specs.View.{written_of}
use Rattle.satuphir.specs.Entry.{entered}
use Rattle.satuphir.proofs.satuphir_transcript.Goals as goal

pub returns : goal.returns
returns c =
    let told : c.unwrap_or_else.result ≡ written_of c.whole-end.result = search rules in
    rw told (entered _ _ _ _ c.whole-end.ensures _ c.number.ensures)
