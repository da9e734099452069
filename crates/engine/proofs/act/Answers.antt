-- `act` goes by the frame: each arm's crate gives what `acted` says.
use Rattle.std.specs.Prelude.{◌≡◌, refl, ℕ}
use Rattle.std.proofs.Common.{arith}
use Rattle.std.proofs.lemmas.Result.{err_from_is_err_and}
use Rattle.protocol.specs.{declared.Rule.Rule, declared.Answer.Answer, declared.Answer.TheVariants.{Accepted, Refused}}
use Rattle.engine.specs.Dispatch.{acted}
use Rattle.engine.proofs.act.Goals as goal

accepted_is : (r : Rule) (n : ℕ) → ◌≡◌ {A = Answer} (Accepted r) (Refused n) → ⊥
accepted_is r n e = let z : ◌≡◌ {A = ℕ} 0 1 = cc in omega arith

pub returns-in_err-rule-in-Job : goal.returns-in_err-rule-in-Job
unfolding acted
returns-in_err-rule-in-Job c =
    let p = err_from_is_err_and c.from_residual.result c.from_residual.ensures.1 in
    rw (p.1, p.2, c.in-Job.is) (record { framed = c.in_err-rule-in-Job.ensures; only = tt })

pub returns-in_ok-rule-in-Job : goal.returns-in_ok-rule-in-Job
unfolding acted
returns-in_ok-rule-in-Job c = rw c.in-Job.is (record { framed = c.in_ok-rule-in-Job.ensures; only = accepted_is _ })

pub returns-in_err-rule-in-Inject : goal.returns-in_err-rule-in-Inject
unfolding acted
returns-in_err-rule-in-Inject c =
    let p = err_from_is_err_and c.from_residual-in_err-rule-in-Inject.result c.from_residual-in_err-rule-in-Inject.ensures.1 in
    rw (p.1, p.2, c.in-Inject.is) (record { framed = c.in_err-rule-in-Inject.ensures; only = tt })

pub returns-in_ok-rule-in-Inject : goal.returns-in_ok-rule-in-Inject
unfolding acted
returns-in_ok-rule-in-Inject c = rw c.in-Inject.is (record { framed = c.in_ok-rule-in-Inject.ensures; only = accepted_is _ })

pub returns-in_err-rule-in-Deliver : goal.returns-in_err-rule-in-Deliver
unfolding acted
returns-in_err-rule-in-Deliver c =
    let p = err_from_is_err_and c.from_residual-in_err-rule-in-Deliver.result c.from_residual-in_err-rule-in-Deliver.ensures.1 in
    rw (p.1, p.2, c.in-Deliver.is) (record { framed = c.in_err-rule-in-Deliver.ensures; only = tt })

pub returns-in_ok-rule-in-Deliver : goal.returns-in_ok-rule-in-Deliver
unfolding acted
returns-in_ok-rule-in-Deliver c = rw c.in-Deliver.is (record { framed = c.in_ok-rule-in-Deliver.ensures; only = accepted_is _ })

pub returns-in_err-rule-in-Work : goal.returns-in_err-rule-in-Work
unfolding acted
returns-in_err-rule-in-Work c =
    let p = err_from_is_err_and c.from_residual-in_err-rule-in-Work.result c.from_residual-in_err-rule-in-Work.ensures.1 in
    rw (p.1, p.2, c.in-Work.is) (record { framed = c.in_err-rule-in-Work.ensures; only = tt })

pub returns-in_ok-rule-in-Work : goal.returns-in_ok-rule-in-Work
unfolding acted
returns-in_ok-rule-in-Work c = rw c.in-Work.is (record { framed = c.in_ok-rule-in-Work.ensures; only = accepted_is _ })

pub returns-in_err-rule-in-Checkpoint : goal.returns-in_err-rule-in-Checkpoint
unfolding acted
returns-in_err-rule-in-Checkpoint c =
    let p = err_from_is_err_and c.from_residual-in_err-rule-in-Checkpoint.result c.from_residual-in_err-rule-in-Checkpoint.ensures.1 in
    rw (p.1, p.2, c.in-Checkpoint.is) (record { framed = c.in_err-rule-in-Checkpoint.ensures; only = tt })

pub returns-in_ok-rule-in-Checkpoint : goal.returns-in_ok-rule-in-Checkpoint
unfolding acted
returns-in_ok-rule-in-Checkpoint c = rw c.in-Checkpoint.is (record { framed = c.in_ok-rule-in-Checkpoint.ensures; only = accepted_is _ })

pub returns-in_err-rule-in-Restart : goal.returns-in_err-rule-in-Restart
unfolding acted
returns-in_err-rule-in-Restart c =
    let p = err_from_is_err_and c.from_residual-in_err-rule-in-Restart.result c.from_residual-in_err-rule-in-Restart.ensures.1 in
    rw (p.1, p.2, c.in-Restart.is) (record { framed = c.in_err-rule-in-Restart.ensures; only = tt })

pub returns-in_ok-rule-in-Restart : goal.returns-in_ok-rule-in-Restart
unfolding acted
returns-in_ok-rule-in-Restart c = rw c.in-Restart.is (record { framed = c.in_ok-rule-in-Restart.ensures; only = accepted_is _ })

pub returns-in_err-rule-in-Withdraw : goal.returns-in_err-rule-in-Withdraw
unfolding acted
returns-in_err-rule-in-Withdraw c =
    let p = err_from_is_err_and c.from_residual-in_err-rule-in-Withdraw.result c.from_residual-in_err-rule-in-Withdraw.ensures.1 in
    rw (p.1, p.2, c.in-Withdraw.is) (record { framed = c.in_err-rule-in-Withdraw.ensures; only = tt })

pub returns-in_ok-rule-in-Withdraw : goal.returns-in_ok-rule-in-Withdraw
unfolding acted
returns-in_ok-rule-in-Withdraw c = rw c.in-Withdraw.is (record { framed = c.in_ok-rule-in-Withdraw.ensures; only = accepted_is _ })

pub returns-in-Crash : goal.returns-in-Crash
unfolding acted
returns-in-Crash c = rw c.in-Crash.is (record { framed = c.crash.ensures.framed; only = c.crash.ensures.ok })

pub returns-in-Show : goal.returns-in-Show
unfolding acted
returns-in-Show c = rw c.in-Show.is (record { framed = record { gives = c.show.ensures.shown; stays = λ n e. refl }; only = c.show.ensures.ok })
