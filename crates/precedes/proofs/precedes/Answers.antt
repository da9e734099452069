-- `precedes` meets its contract: by the laws of `Answers`, one for each way the tests go.
use Rattle.std.specs.Prelude.{◌≡◌, refl, List, ℕ, length, unwrap_or}
use Rattle.std.proofs.Common.{sym, ap, ◌∙◌, inl, inr, arith}
use Rattle.lists.specs.Tests.{true_not_false}
use Rattle.precedes.specs.declared.Processing.{Processing}
use Rattle.precedes.specs.{Precedes.Right, Reading.{Reading, read_to, read_all, reading_falls}}
use Rattle.precedes.proofs.Answers.{whole_unmarked, found_low, right_unknown, right_yes, right_no}
use Rattle.precedes.proofs.precedes.Goals.{else-first-second-via-then-first-second+else-seen-first, else-first-second-via-else-first-second}
use Rattle.precedes.proofs.precedes.Goals as goal

-- the whole row was read
read : (row : List Processing) {at before sent : List ℕ} → Reading row (read_to row 0) at before sent → Reading row (length row) at before sent
read row r = rw (sym (read_all row 0 refl)) r

pub returns-in-Some : goal.returns-in-Some
unfolding Right
returns-in-Some c = let e = c.in-Some.ensures in (e.from_one, sym e.place)

pub returns-in_default-find : goal.returns-in_default-find
returns-in_default-find c =
    let x = c.args in
    let e = c.in_default.ensures in
    right_unknown (read _ e.links) (sym e.place) (x.chare, x.tn) (x.later_chare, x.later_tn) c.find.ensures.is refl (inl (ap (λ r. unwrap_or r 0) c.in_default-find.is))

pub returns-in_default-find-2 : goal.returns-in_default-find-2
returns-in_default-find-2 c =
    let x = c.args in
    let e = c.in_default.ensures in
    right_unknown (read _ e.links) (sym e.place) (x.chare, x.tn) (x.later_chare, x.later_tn) c.find.ensures.is c.find-2.ensures.is (inr (ap (λ r. unwrap_or r 0) c.in_default-find-2.is))

pub visit-requires : goal.visit-requires
visit-requires c =
    let r = read _ c.in_default.ensures.links in record {
      low = omega (arith, c.in-Some-find-2.ensures.is, found_low r (c.args.later_chare, c.args.later_tn));
      falls = reading_falls r;
      whole = whole_unmarked _ _ _;
    }

pub bounds-seen-first : goal.bounds-seen-first
bounds-seen-first c =
    omega (arith, c.in-Some-find.ensures.is, found_low (read _ c.in_default.ensures.links) (c.args.chare, c.args.tn))

pub returns-then-seen-first : goal.returns-then-seen-first
returns-then-seen-first c =
    let x = c.args in
    let e = c.in_default.ensures in
    let f = c.in-Some-find.ensures in
    let g = c.in-Some-find-2.ensures in
    right_yes (read _ e.links) (sym e.place) (x.chare, x.tn) (x.later_chare, x.later_tn) f.is g.is
    (λ z. omega (arith, f.from_one)) (λ z. omega (arith, g.from_one)) c.visit.ensures (omega arith) c.if-seen-first.true

pub returns : goal.returns
returns c =
    let x = c.args in
    let e = c.in_default.ensures in
    let f = c.in-Some-find.ensures in
    let g = c.in-Some-find-2.ensures in
    right_no (read _ e.links) (sym e.place) (x.chare, x.tn) (x.later_chare, x.later_tn) f.is g.is
    (λ z. omega (arith, f.from_one)) (λ z. omega (arith, g.from_one)) c.visit.ensures (elim c.else-first-second.branch [
      | else-first-second-via-then-first-second+else-seen-first w ↦ inr (λ m. true_not_false m w.if-seen-first.false)
      | else-first-second-via-else-first-second w ↦ inl w.if-first-second.false
    ])
