use Rattle.std.proofs.Common.{le-leb}
use Rattle.std.proofs.lemmas.Bool.{lt-leb}
use Rattle.lists.specs.Questions.{first_no}
use Rattle.sends.proofs.verdict.answer.Goals as goal

pub returns-then-not-fits : goal.returns-then-not-fits
unfolding first_no
returns-then-not-fits c = rw c.if-not-fits.true

pub returns-then-not-admits : goal.returns-then-not-admits
unfolding first_no
returns-then-not-admits c = rw (c.if-not-fits.false, c.if-not-admits.true)

pub returns-then-log-gt16 : goal.returns-then-log-gt16
unfolding first_no
returns-then-log-gt16 c =
    rw (c.if-not-fits.false, c.if-not-admits.false, lt-leb c.args.log 16 c.if-log-gt16.true)

pub returns-then-not-room : goal.returns-then-not-room
unfolding first_no
returns-then-not-room c =
    rw (c.if-not-fits.false, c.if-not-admits.false, le-leb c.args.log 16 c.if-log-gt16.false, c.if-not-room.true)

pub returns-then-wire-gt128 : goal.returns-then-wire-gt128
unfolding first_no
returns-then-wire-gt128 c =
    let a = c.args in
    rw (c.if-not-fits.false, c.if-not-admits.false, le-leb a.log 16 c.if-log-gt16.false, c.if-not-room.false, lt-leb a.wire 128 c.if-wire-gt128.true)

pub returns-else-wire-gt128 : goal.returns-else-wire-gt128
unfolding first_no
returns-else-wire-gt128 c =
    let a = c.args in
    rw (c.if-not-fits.false, c.if-not-admits.false, le-leb a.log 16 c.if-log-gt16.false, c.if-not-room.false, le-leb a.wire 128 c.if-wire-gt128.false)
