use Rattle.std.proofs.Common.{◌≡◌, true, ℕ, refl}
use Rattle.protocol.specs.{declared.Seen.Seen, declared.Seen.TheVariants.{Worked, Open, Beyond}, Window.{admitted}}
use Rattle.window.proofs.admitted.Goals as goal
use Rattle.window.proofs.admitted.Goals.{in-Beyond, in_default}

near : (x : Seen) → ((by : ℕ) → x ≡ Beyond by → ⊥) → true ≡ admitted x
unfolding admitted
near Worked n = refl
near Open n = refl
near (Beyond by) n = absurd (n by refl)

pub returns : goal.returns
unfolding admitted
returns c = elim c.match-matches.branch [ in-Beyond w ↦ rw (w.matches-is, w.in-Beyond.is) | in_default w ↦ rw w.matches-is (near _ w.in_default.not-Beyond) ]
