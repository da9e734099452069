-- `from_elsewhere` meets its contract, case by case.
use Rattle.std.proofs.Common.{eq-eqb, ne_eqb, lt-ltb, le-ltb, rules}
use Rattle.restart.specs.Resends.{packets_of, elsewhere}
use Rattle.restart.proofs.resend.from_elsewhere.Goals as goal

pub returns-then-x-eq0 : goal.returns-then-x-eq0
unfolding elsewhere packets_of
returns-then-x-eq0 c = rw (eq-eqb c.args.x.tn 0 (search rules))

pub returns-then-x-h : goal.returns-then-x-h
unfolding elsewhere packets_of
returns-then-x-h c = let a = c.args in rw (ne_eqb a.x.tn 0 (search rules), le-ltb a.h a.x.tn (search rules))

pub returns : goal.returns
unfolding elsewhere packets_of
returns c = let a = c.args in rw (ne_eqb a.x.tn 0 (search rules), lt-ltb a.h a.x.tn (search rules))
