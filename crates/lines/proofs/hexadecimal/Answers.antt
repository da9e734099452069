-- `lines::hexadecimal` meets its contract: the digits behind those that are still to come stand.
use Rattle.std.specs.Prelude.{◌≡◌, List, ◌++◌, ℕ, suc, ◌-◌, ◌<◌, ◌/◌, ◌%◌, length, drop, set}
use Rattle.std.proofs.Common.{◌∙◌, sym, arith, add-one, append-nil, append_assoc, length-set, drop_of_length-le}
use Rattle.std.proofs.lemmas.List.{drop-set}
use Rattle.protocol.specs.Lines.{hexadecimal, printed_digit}
use Rattle.lines.proofs.hexadecimal.Goals as goal

pub loop-i-init : goal.loop-i-init
loop-i-init c = rw (drop_of_length-le c.args.out.now {i = length c.args.out.now} (omega arith), append-nil)

-- one digit more
step : (l h : List ℕ) (i rest d : ℕ) → i < length l → d ≡ printed_digit (rest % 16) → h ≡ hexadecimal (suc i) rest ++ drop (suc i) l → h ≡ hexadecimal i (rest / 16) ++ drop i (set l i d)
unfolding hexadecimal
step l h i rest d b e f = f ∙ rw (append_assoc, ← e, drop-set l i d b, add-one i)

pub loop-i-preserved : goal.loop-i-preserved
loop-i-preserved c =
    let l = c.loop-i in
    let e : suc (l.i - 1) ≡ l.i = omega arith in
    rw length-set (step l.out _ (l.i - 1) l.rest _ (omega arith) c.digit.ensures (rw e l.invariant))

pub returns : goal.returns
unfolding hexadecimal
returns c =
    let l = c.loop-i in
    let e : l.i ≡ 0 = omega arith in
    sym (rw (e, l.auto.out) at l.invariant)
