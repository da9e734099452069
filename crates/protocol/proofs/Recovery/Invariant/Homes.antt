-- Who is where: tests for a machine, and numbers of machines and senders.
use Rattle.std.specs.Prelude.{◌≡◌, true, false, not, ◌≢◌, ℕ, eqb}
use Rattle.std.proofs.Common.{inl, inr, arith, eq-eqb, eqb-true, ne_eqb}
use mathlib.Core.List.Memᴰ.{head as here}
use mathlib.Core.List.Memᴰ.{tail as there}
use Rattle.std.proofs.lemmas.Bool.{eqb-false}
use Rattle.lists.specs.Tests.{and_r, true_not_false}
use Rattle.lists.specs.Lists.{◌∈◌, All, all_nil, all_cons}
use Rattle.protocol.specs.Parts.{Job, on, every_sender, every_machine}
use Rattle.protocol.specs.Sending.{is_local}
use Rattle.protocol.proofs.Recovery.Invariant.Clauses.{Sender, JobOk}

-- chares of one machine are local to each other
pub home_local : (j : Job) (a b : ℕ) → a ≢ 0 → j.home a ≡ j.home b → is_local j a b ≡ true
unfolding is_local
home_local j a b d e = rw (ne_eqb a 0 d, eq-eqb (j.home a) (j.home b) e)

pub remote_home : (j : Job) (a b : ℕ) → a ≢ 0 → is_local j a b ≡ false → j.home a ≢ j.home b
remote_home j a b d f e = true_not_false (home_local j a b d e) f

-- the test for a machine
pub not_on : (j : Job) (p c : ℕ) → j.home c ≢ p → on j p c ≡ false
unfolding on
not_on j p c h = ne_eqb (j.home c) p h

pub on_home : (j : Job) (p c : ℕ) → on j p c ≡ true → j.home c ≡ p
unfolding on
on_home j p c h = eqb-true (j.home c) p h

pub elsewhere : (j : Job) (p c : ℕ) → on j p c ≡ false → j.home c ≢ p
unfolding on
elsewhere j p c h = eqb-false (j.home c) p h

-- no machine is 0
pub machine_not_desk : All (λ p. p ≢ 0) every_machine
unfolding every_machine
machine_not_desk = all_cons (λ e. omega arith) (all_cons (λ e. omega arith) (all_cons (λ e. omega arith)
    (all_cons (λ e. omega arith) (all_cons (λ e. omega arith) (all_cons (λ e. omega arith) (all_nil _))))))

-- every log has a place in the list of senders
pub sender_known : {j : Job} → JobOk j → (a : ℕ) → Sender j a → a ∈ every_sender
unfolding every_sender
sender_known job a (inl e) = here e
sender_known job a (inr k) = there (job.chare a k)

-- chares that are local to each other are on one machine
pub local_home : (j : Job) (a b : ℕ) → is_local j a b ≡ true → j.home a ≡ j.home b
unfolding is_local
local_home j a b e = eqb-true _ _ (and_r (not (eqb a 0)) _ e)
