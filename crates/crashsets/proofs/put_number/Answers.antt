-- `put_number`: one digit or two, byte by byte.
use Rattle.std.specs.Prelude.{◌≡◌, [], ◌∷◌, suc, ◌+◌}
use Rattle.std.proofs.Common.{add-one, arith, length-set}
use Rattle.std.proofs.lemmas.List.Edits.{sets-eq}
use Rattle.crashsets.specs.Digits.{one_digit, two_digits}
use Rattle.crashsets.proofs.put_number.Goals as goal

pub returns-then-n-lt10 : goal.returns-then-n-lt10
returns-then-n-lt10 c =
    let e = one_digit c.args.n c.args.behind c.if-n-lt10.true in
    record {
      end = rw e;
      bytes = rw (e, add-one) (sets-eq (_ ∷ c.args.behind ∷ []) c.args.out.now c.args.at (omega (arith, c.requires.0)));
    }

pub returns : goal.returns
returns c =
    let e = two_digits c.args.n c.args.behind c.if-n-lt10.false c.requires.1 in
    let two : c.args.at + 2 ≡ suc (suc c.args.at) = omega arith in
    record {
      end = rw e;
      bytes = rw (e, add-one, two) (sets-eq (_ ∷ _ ∷ c.args.behind ∷ []) c.args.out.now c.args.at (omega (arith, c.requires.0)));
    }

pub bounds-out-at-then-n-lt10 : goal.bounds-out-at-then-n-lt10
bounds-out-at-then-n-lt10 c = simp length-set (omega arith)

pub bounds-out-at-3 : goal.bounds-out-at-3
bounds-out-at-3 c = simp length-set (omega arith)

pub bounds-out-at-4 : goal.bounds-out-at-4
bounds-out-at-4 c = simp length-set (omega arith)
