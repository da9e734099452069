-- `answer`: off the wire, and the reply, if any, at its end.
use Rattle.std.specs.Prelude.{◌≡◌, List, map, ℕ, ◌-◌, length}
use Rattle.std.proofs.Common.{ap, ◌∙◌, arith}
use Rattle.words.specs.{Rows.{row, without}, Becomes.{becomes_same, becomes_as}, Mapped.map_without}
use Rattle.item.specs.Item.{item_of, items}
use Rattle.packets.specs.Words.{packets}
use Rattle.deliver.specs.View.{answered, answered_words}
use Rattle.deliver.proofs.answer.Goals as goal

gone : (before left : List ℕ) (at : ℕ) → row left ≡ without at (row before) → items left ≡ without at (items before)
unfolding items
gone before left at e = ap (map item_of) e ∙ map_without item_of at (row before)

pub returns-in-Some : goal.returns-in-Some
unfolding answered answered_words
returns-in-Some c =
    let n : length c.leave.new.ws - 1 ≡ 128 = omega arith in
    let on = c.join.ensures.row in
    rw c.in-Some.is (record {
      left = c.leave.new.ws;
      off = c.leave.ensures.row;
      on = becomes_as packets on (rw (n, c.leave.ensures.row.items));
      words = c.join.ensures.words ∙ rw (n, gone _ _ _ c.leave.ensures.words);
    })

pub returns-in_default : goal.returns-in_default
unfolding answered answered_words
returns-in_default c =
    let l = c.leave.ensures in
    rw c.in_default.is (record { left = _; off = l.row; on = becomes_same packets _ l.row.items; words = gone _ _ _ l.words })
