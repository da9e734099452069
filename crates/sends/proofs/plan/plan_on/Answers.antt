use Rattle.std.proofs.Common.{lt-ltb, le-ltb, arith, rules}
use Rattle.std.proofs.lemmas.Bool.{not-true, not-false}
use Rattle.sends.specs.{Plan.{plan_for, local_plan}, Room.extra_top}
use Rattle.memory.specs.View.{table_part}
use Rattle.sends.proofs.plan.plan_on.Goals as goal

pub returns-then-last-ge60000 : goal.returns-then-last-ge60000
returns-then-last-ge60000 c = unfold plan_for in rw (le-ltb c.args.last 60000 c.if-last-ge60000.true) c.idle.ensures

pub returns-then-not-near : goal.returns-then-not-near
returns-then-not-near c =
    let a = c.args in unfold plan_for in rw (lt-ltb a.last 60000 c.if-last-ge60000.false, not-true a.near c.if-not-near.true-raw) c.idle-then-not-near.ensures

pub new_plan-requires : goal.new_plan-requires
new_plan-requires c =
    let a = c.args in record { y_len = search rules; extra_bound = omega (arith, extra_top a.same a.k, c.extra_after.ensures) }

pub returns-in-Some : goal.returns-in-Some
returns-in-Some c =
    let a = c.args in
    unfold plan_for local_plan in
    rw (lt-ltb a.last 60000 c.if-last-ge60000.false, not-false a.near c.if-not-near.false-raw, table_part a.y.now, ← c.find.ensures, c.in-Some.is) c.idle-in-Some.ensures

pub returns-in-None : goal.returns-in-None
returns-in-None c =
    let a = c.args in
    unfold plan_for local_plan in
    rw (lt-ltb a.last 60000 c.if-last-ge60000.false, not-false a.near c.if-not-near.false-raw, ← c.height.ensures, ← c.base_after-base.ensures, ← c.extra_after.ensures, table_part a.y.now, ← c.find.ensures, c.in-None.is, ← table_part a.y.now) c.new_plan.ensures
