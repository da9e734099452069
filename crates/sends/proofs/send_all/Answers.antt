use Rattle.std.specs.Prelude.{◌-◌}
use Rattle.std.proofs.Common.{eq-eqb, ne_eqb}
use Rattle.protocol.specs.Work.{receivers, port}
use Rattle.sends.specs.{Made.{none_made, by_ports}, Reading.job_at}
use Rattle.head.specs.Head.{job_of}
use Rattle.sends.proofs.send_all.Goals as goal
use Rattle.sends.proofs.send_all.Goals.{in_default-eq0-via-in_default-eq0, in_default-eq0-via-in_default-eq0-2}

pub returns-then-hops-eq0 : goal.returns-then-hops-eq0
unfolding receivers
returns-then-hops-eq0 c =
    let a = c.args in rw (eq-eqb a.hops 0 c.if-hops-eq0.true) (none_made a.s.now c.told-s a.c a.value (a.hops - 1))

pub returns-in-0-eq0 : goal.returns-in-0-eq0
unfolding port
returns-in-0-eq0 c =
    let a = c.args in
    rw (job_at a.s.now, by_ports (job_of a.s.now) a.c a.hops _ _ c.if-hops-eq0.false c.first.ensures.is c.second.ensures.is, c.in-0-eq0.is-0, c.in-0-eq0.is-1)
    (none_made a.s.now c.told-s a.c a.value (a.hops - 1))

pub returns-in_default-eq0 : goal.returns-in_default-eq0
unfolding port
returns-in_default-eq0 c =
    let a = c.args in
    rw (job_at a.s.now, by_ports (job_of a.s.now) a.c a.hops _ _ c.if-hops-eq0.false c.first.ensures.is c.second.ensures.is)
    (elim c.in_default-eq0-1.branch [
      | in_default-eq0-via-in_default-eq0 w ↦ rw (w.in_default-eq0.is-0, ne_eqb _ 0 w.in_default-eq0.is-1.1, ← w.b-is) c.send_one.ensures
      | in_default-eq0-via-in_default-eq0-2 w ↦ rw (w.in_default-eq0.is-1, ne_eqb _ 0 w.in_default-eq0.is-0.1, ← w.b-is) c.send_one.ensures
    ])

pub returns-in_default : goal.returns-in_default
unfolding port
returns-in_default c =
    let a = c.args in
    rw (job_at a.s.now, by_ports (job_of a.s.now) a.c a.hops _ _ c.if-hops-eq0.false c.first.ensures.is c.second.ensures.is, ne_eqb _ 0 c.in_default.is-0.1, ne_eqb _ 0 c.in_default.is-1.1) c.send_two.ensures
