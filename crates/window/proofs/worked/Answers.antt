use Rattle.std.proofs.Common.{◌≡◌, Bool, true, false, rules, refl}
use Rattle.protocol.specs.{declared.Seen.Seen, declared.Seen.TheVariants.{Worked, Open, Beyond}, Window.{worked}}
use Rattle.window.proofs.worked.Goals as goal

same : (x : Seen) (b : Bool) → (b ≡ true → x ≡ Worked) → (x ≡ Worked → b ≡ true) → b ≡ worked x
unfolding worked
same Worked b p q = q refl
same Open true p q = let e = p refl in cc
same Open false p q = refl
same (Beyond by) true p q = let e = p refl in cc
same (Beyond by) false p q = refl

pub returns : goal.returns
returns c = same c.args.x c.eq.result (search rules) (search rules)
