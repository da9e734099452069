use Rattle.std.proofs.Common.{ℕ, ◌+◌, arith, rules, get_or, Some}
use Rattle.words.specs.Sift.{sift_start, sift_keep, sift_skip, sift_some, sift_all}
use Rattle.item.specs.{Item.{item_of, items}, Sifts.{Answered}}
use Rattle.item.proofs.sift.Goals as goal
use Rattle.item.proofs.sift.Goals.{in-Some, in_default}

pub loop-i-init : goal.loop-i-init
loop-i-init g c = (search rules, λ stays becomes says. sift_start item_of stays becomes _ _ c.count-n.ensures.is)

pub loop-i-preserved : goal.loop-i-preserved
loop-i-preserved g c =
    let l = c.loop-i in
    let x : ℕ = get_or l.ws (l.i + 1) 0 in
    elim c.match-answer.branch [
      | in-Some w ↦ rw (w.ws-is, w.k-is) (
        omega arith,
        λ stays becomes says.
            let p : Answered stays becomes x (Some w.in-Some.w) = says x _ (search rules) (rw w.in-Some.is at c.answer.ensures) in
            sift_keep item_of stays becomes (l.invariant.1 stays becomes says) _ c.loop-i-test.true p.0 p.1,
      )
      | in_default w ↦ rw (w.ws-is, w.k-is) (
        omega arith,
        λ stays becomes says.
            sift_skip item_of stays becomes (l.invariant.1 stays becomes says) c.loop-i-test.true (says x _ (search rules) (rw w.in_default.is at c.answer.ensures)),
      )
    ]

pub returns-then-k-n : goal.returns-then-k-n
unfolding items
returns-then-k-n g c stays becomes says = sift_some item_of stays becomes (c.loop-i.invariant.1 stays becomes says) (omega arith) (omega arith)

pub returns : goal.returns
unfolding items
returns g c stays becomes says = sift_all item_of stays becomes (c.loop-i.invariant.1 stays becomes says) (omega arith) (omega arith)
