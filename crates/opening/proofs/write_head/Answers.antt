-- `opening::write_head` meets its contract: the numbers, then five parts.
use Rattle.std.specs.Prelude.{◌≡◌, length}
use Rattle.std.proofs.Common.{◌∙◌, rules, arith}
use Rattle.head.specs.Head.{HEAD, BUDDY, HELD, HOME, FIRST, SECOND}
use Rattle.opening.specs.Words.{filled_at, head_written}
use Rattle.opening.proofs.write_head.Goals as goal

pub returns : goal.returns
returns c =
    let size : length c.write_numbers.new.h ≡ HEAD = c.write_numbers.auto.h ∙ c.requires in
    let a = filled_at _ BUDDY 7 _ c.fill.new.part size (omega arith) c.fill.auto.part (c.fill.ensures _ (λ k r low says. search rules)) in
    let b = filled_at _ HELD 7 _ c.fill-2.new.part a.0 (omega arith) c.fill-2.auto.part (c.fill-2.ensures _ (λ k r low says. search rules)) in
    let d = filled_at _ HOME 13 _ c.fill-3.new.part b.0 (omega arith) c.fill-3.auto.part (c.fill-3.ensures _ (λ k r low says. search rules)) in
    let e = filled_at _ FIRST 13 _ c.fill-4.new.part d.0 (omega arith) c.fill-4.auto.part (c.fill-4.ensures _ (λ k r low says. search rules)) in
    let f = filled_at _ SECOND 13 _ c.fill-5.new.part e.0 (omega arith) c.fill-5.auto.part (c.fill-5.ensures _ (λ k r low says. search rules)) in
    head_written _ _ _ _ _ _ _ f.0 c.write_numbers.ensures a.1 b.1 d.1 e.1 f.1
