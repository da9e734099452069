-- `jobline::job_in_range` meets its contract, test by test.
use Rattle.std.specs.Prelude.{◌≡◌}
use Rattle.std.proofs.Common.{◌∙◌, arith, rules}
use Rattle.std.proofs.lemmas.Bool.Decides.{nat_tests}
use Rattle.std.proofs.lemmas.Iterator.Search.{all_from_yields_List}
use borrow.Author.Tests.{tests}
use Rattle.lists.specs.{Lists.allb, Counting.counting}
use Rattle.frames.specs.Decode.{decoded}
use Rattle.protocol.specs.{Frames.between, Job.{machines_of, chares_of, buddy_in_range, chare_in_range}}
use Rattle.jobline.specs.{Passes.asked, Spans.{from_one, all_tested}}
use Rattle.jobline.proofs.job_in_range.Goals as goal
use Rattle.jobline.proofs.job_in_range.Goals.{then-contains, else-contains, then-contains-2, else-contains-2}

pub returns-then-all : goal.returns-then-all
unfolding between machines_of chares_of
returns-then-all c =
    let b = decoded c.args.line.now in
    let n = c.new-then-all.ensures in
    let chares : c.all-then-all.result ≡ allb (chare_in_range b) (counting c.byte-chares.result 1) =
    all_from_yields_List (chare_in_range b) _ _ _ c.all-then-all.ensures.ran (from_one _ n.start n.end n.exhausted) (λ x b q k. search (rules, tests)) ∙ all_tested _ _ in
    rw (asked b)
    (elim c.if-contains-2.branch [
      | then-contains-2 w ↦
          let n = w.new-then-contains-2.ensures in
          let buddies : w.all.result ≡ allb (buddy_in_range b) (counting c.byte-machines.result 1) =
          all_from_yields_List (buddy_in_range b) _ _ _ w.all.ensures.ran (from_one _ n.start n.end n.exhausted) (λ x b q k. search (rules, tests)) ∙ all_tested _ _ in
          elim c.if-contains.branch [ then-contains v ↦ grind (arith, nat_tests) | else-contains v ↦ grind (arith, nat_tests) ]
      | else-contains-2 w ↦ grind (arith, nat_tests)
    ])

pub returns-else-all : goal.returns-else-all
unfolding between machines_of chares_of
returns-else-all c =
    let b = decoded c.args.line.now in
    rw (asked b)
    (elim c.if-contains-2.branch [
      | then-contains-2 w ↦
          let n = w.new-then-contains-2.ensures in
          let buddies : w.all.result ≡ allb (buddy_in_range b) (counting c.byte-machines.result 1) =
          all_from_yields_List (buddy_in_range b) _ _ _ w.all.ensures.ran (from_one _ n.start n.end n.exhausted) (λ x b q k. search (rules, tests)) ∙ all_tested _ _ in
          elim c.if-contains.branch [ then-contains v ↦ grind (arith, nat_tests) | else-contains v ↦ grind (arith, nat_tests) ]
      | else-contains-2 w ↦ elim c.if-contains.branch [ then-contains v ↦ grind (arith, nat_tests) | else-contains v ↦ grind (arith, nat_tests) ]
    ])
