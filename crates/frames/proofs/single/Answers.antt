-- `frames::single` meets its contract: one pair of digits, and each kind at its number.
use Rattle.std.proofs.Common.{◌∙◌, arith, ne_eqb}
use Rattle.lists.specs.{Lists.allb, Counting.counting}
use Rattle.protocol.specs.Frames.{parts}
use Rattle.frames.specs.{PairLaws.{behind_none, behind_parts}, Read.read_as}
use Rattle.frames.proofs.single.Goals as goal

pub returns-in_err-x : goal.returns-in_err-x
returns-in_err-x c = c.from_residual.ensures ∙ behind_none c.args.line.now _ 1 c.requires.line_len 1 (omega arith) (omega arith) c.in_err-x.ensures

pub returns-in-18 : goal.returns-in-18
unfolding parts read_as allb counting
returns-in-18 c =
    let x = c.in_ok-x.ensures in
    rw (behind_parts c.args.line.now _ 1 c.requires.line_len (rw x.0), c.in-18.is, x.1)

pub returns-in-19 : goal.returns-in-19
unfolding parts read_as allb counting
returns-in-19 c =
    let x = c.in_ok-x.ensures in
    rw (behind_parts c.args.line.now _ 1 c.requires.line_len (rw x.0), c.in-19.is, x.1)

pub returns-in-20 : goal.returns-in-20
unfolding parts read_as allb counting
returns-in-20 c =
    let x = c.in_ok-x.ensures in
    rw (behind_parts c.args.line.now _ 1 c.requires.line_len (rw x.0), c.in-20.is, x.1)

pub returns-in-21 : goal.returns-in-21
unfolding parts read_as allb counting
returns-in-21 c =
    let x = c.in_ok-x.ensures in
    rw (behind_parts c.args.line.now _ 1 c.requires.line_len (rw x.0), c.in-21.is, x.1)

pub returns-in-22 : goal.returns-in-22
unfolding parts read_as allb counting
returns-in-22 c =
    let x = c.in_ok-x.ensures in
    rw (behind_parts c.args.line.now _ 1 c.requires.line_len (rw x.0), c.in-22.is, x.1)

pub returns-in-23 : goal.returns-in-23
unfolding parts read_as allb counting
returns-in-23 c =
    let x = c.in_ok-x.ensures in
    rw (behind_parts c.args.line.now _ 1 c.requires.line_len (rw x.0), c.in-23.is, x.1)

pub returns-in_default : goal.returns-in_default
unfolding parts read_as allb counting
returns-in_default c =
    let k = c.args.kind in
    let x = c.in_ok-x.ensures in
    rw (
      behind_parts c.args.line.now k 1 c.requires.line_len (rw x.0),
      ne_eqb k 0x01 (λ h. omega (arith, c.requires.lt_kind)),
      ne_eqb k 0x10 (λ h. omega (arith, c.requires.lt_kind)),
      ne_eqb k 0x11 (λ h. omega (arith, c.requires.lt_kind)),
      ne_eqb k 0x12 (λ h. omega arith),
      ne_eqb k 0x13 (λ h. omega arith),
      ne_eqb k 0x14 (λ h. omega arith),
      ne_eqb k 0x15 (λ h. omega arith),
      ne_eqb k 0x16 (λ h. omega arith),
      ne_eqb k 0x17 (λ h. omega arith),
    )
