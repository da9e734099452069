-- `satuphir_precedes` gives the number of what `precedes` answers.
use Rattle.satuphir.proofs.satuphir_precedes.Goals as goal

pub returns : goal.returns
returns c = record { answer = c.precedes.result; right = c.precedes.ensures; as_number = c.from.ensures }
