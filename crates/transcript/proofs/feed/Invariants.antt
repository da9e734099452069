use Rattle.std.specs.Prelude.{◌≡◌, ◌-◌, ◌≤◌, length, take}
use Rattle.store.specs.{Places.STORE, View.view}
use Rattle.transcript.specs.{Reading.{LINE, within}, Feeding.FedSoFar}
use Rattle.transcript.proofs.feed.Given as goal

abbrev pub invariant-loop-out : goal.invariant-loop-out
invariant-loop-out l = (length l.s ≡ STORE) × (length l.line ≡ LINE) × (l.len ≤ LINE) × (length l.out ≡ length l.initial.out)
    × FedSoFar (within (view l.initial.s) (take l.initial.len l.initial.line)) l.input l.initial.out (within (view l.s) (take l.len l.line)) l.taken l.written l.out

abbrev pub decreases-loop-out : goal.decreases-loop-out
decreases-loop-out l = length l.input - l.taken
