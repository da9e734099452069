use Rattle.std.specs.Prelude.{◌≡◌, ◌++◌, length, drop}
use Rattle.protocol.specs.Lines.{hexadecimal}
use Rattle.lines.proofs.hexadecimal.Given as goal

abbrev pub invariant-loop-i : goal.invariant-loop-i
invariant-loop-i l = hexadecimal (length l.out) l.n ≡ hexadecimal l.i l.rest ++ drop l.i l.out
