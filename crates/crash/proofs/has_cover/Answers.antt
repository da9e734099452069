-- `crash::has_cover` meets its contract: every machine is up and the copy is held, or some machine is not up.
use Rattle.std.specs.Prelude.{◌≡◌, ◌≢◌, refl, ℕ, ◌≤◌, get_or}
use Rattle.std.proofs.Common.{arith, ◌∙◌}
use Rattle.std.proofs.lemmas.Grind.{common_steps}
use Rattle.std.proofs.iter.runs.Sources.{ranges}
use Rattle.protocol.specs.declared.Status.TheVariants.{Up}
use Rattle.head.specs.Head.{status_of}
use Rattle.crash.specs.Cover.{cover_held, no_cover}
use Rattle.crash.proofs.has_cover.Goals as goal

pub returns-then-all : goal.returns-then-all
returns-then-all c =
    let s = c.args.s.now in
    let up : (q : ℕ) → 1 ≤ q → q ≤ c.machines.result → status_of s q ≡ Up = λ q l r. let seen : get_or s q 0 ≡ get_or s q 0 = refl in grind (arith, common_steps, ranges) in
    cover_held s c.args.p _ c.machines.ensures.is up _ c.is_held.ensures

pub returns-else-all : goal.returns-else-all
returns-else-all c =
    let s = c.args.s.now in
    let bad : (q : ℕ) × (1 ≤ q) × (q ≤ c.machines.result) × (status_of s q ≢ Up) = grind (arith, common_steps, ranges) in
    c.if-all.false ∙ no_cover s c.args.p _ c.machines.ensures.is bad
