-- `take_in`: an open SN gets its bit, and mark and window move by the run of ones.
use Rattle.std.specs.Prelude.{◌≡◌, refl, true, false}
use Rattle.std.proofs.Common.{sym, ◌∙◌, ap, arith}
use Rattle.protocol.specs.{declared.Seen.Seen, declared.Seen.TheVariants.{Worked, Open, Beyond}, Window.{look, is_open}}
use Rattle.protocol.proofs.{Recovery.Laws.Look.{open_above, open_near}}
use Rattle.window.specs.{Bits.window_bits, Slides.{run_top, kept, taken}}
use Rattle.window.proofs.take_in.Goals as goal

-- a reply other than the one that the pattern fits
not_open : (x : Seen) → (x ≡ Open → ⊥) → is_open x ≡ false
unfolding is_open
not_open Worked n = refl
not_open Open n = absurd (n refl)
not_open (Beyond by) n = refl

pub returns-in_default : goal.returns-in_default
returns-in_default c = rw c.from.ensures (kept _ _ _ (ap is_open (sym c.look.ensures) ∙ not_open _ c.in_default.not-Open))

pub overflow_sub-n : goal.overflow_sub-n
unfolding is_open
overflow_sub-n c = omega (arith, open_above _ _ _ (ap is_open (sym c.look.ensures ∙ c.in-Open.is)))

pub overflow_sub-n-2 : goal.overflow_sub-n-2
unfolding is_open
overflow_sub-n-2 c = omega (arith, open_above _ _ _ (ap is_open (sym c.look.ensures ∙ c.in-Open.is)))

pub set-v-requires : goal.set-v-requires
unfolding is_open
set-v-requires c =
    let is-open : is_open (look c.args.mark (window_bits c.args.w) c.args.n) ≡ true = ap is_open (sym c.look.ensures ∙ c.in-Open.is) in
    omega (arith, open_above _ _ _ is-open, open_near _ _ _ is-open)

pub overflow_add-result : goal.overflow_add-result
overflow_add-result c = omega (arith, run_top _ _ c.run-t.ensures)

pub returns : goal.returns
unfolding is_open
returns c =
    rw c.from-2.ensures (taken _ _ _ (ap is_open (sym c.look.ensures ∙ c.in-Open.is)) c.set-v.result c.shift.result c.run-t.result c.set-v.ensures c.run-t.ensures c.shift.ensures)
