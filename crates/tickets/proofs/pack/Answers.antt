use Rattle.std.specs.Prelude.{◌≡◌}
use Rattle.tickets.specs.EntryLaws.{item_says}
use Rattle.words.specs.Fields.{bit}
use Rattle.tickets.proofs.pack.Goals as goal

pub returns : goal.returns
returns c =
    let e = c.args.e in
    let a : c.bit.result ≡ bit e.received = c.bit.ensures.is in
    let b : c.bit-2.result ≡ bit e.noted = c.bit-2.ensures.is in
    item_says _ _ e c.pack.ensures (rw (a, b))
