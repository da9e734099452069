-- `settle::is_done` meets its contract: all chares of a machine that is catching up pass.
use Rattle.std.specs.Prelude.{◌≡◌, ◌≢◌, refl, true, false, ℕ, ◌≤◌, get_or}
use Rattle.std.proofs.Common.{arith, ◌∙◌}
use Rattle.std.proofs.lemmas.Grind.{common_steps}
use Rattle.std.proofs.iter.runs.Sources.{ranges}
use Rattle.protocol.specs.declared.Status.TheVariants.{CatchingUp}
use Rattle.lists.specs.Tests.{either}
use Rattle.head.specs.Head.{status_of}
use Rattle.store.specs.View.{view}
use Rattle.settle.specs.Done.{passes, busy, all_done, one_left}
use Rattle.settle.proofs.is_done.Goals as goal

pub returns-else-eq : goal.returns-else-eq
returns-else-eq c =
    let s = c.args.s.now in
    let not : status_of s c.args.p ≢ CatchingUp = grind (arith, common_steps) in
    c.if-eq.false ∙ busy s c.args.p not

pub returns-then-eq : goal.returns-then-eq
returns-then-eq c =
    let s = c.args.s.now in
    let p = c.args.p in
    let e : status_of s p ≡ CatchingUp = grind (arith, common_steps) in
    let yes : c.all.result ≡ true → (k : ℕ) → 1 ≤ k → k ≤ 12 → passes (view s) p k ≡ true = λ t k l r. let seen : get_or s k 0 ≡ get_or s k 0 = refl in grind (arith, common_steps, ranges) in
    let no : c.all.result ≡ false → (k : ℕ) × (1 ≤ k) × (k ≤ 12) × (passes (view s) p k ≡ false) = λ f. grind (arith, common_steps, ranges) in
    either c.all.result (λ t. t ∙ all_done s p e (yes t)) (λ f. f ∙ one_left s p e (no f))
