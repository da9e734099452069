-- `put` joins the wire where there is room.
use Rattle.std.specs.Prelude.{◌≡◌, ◌-◌, ◌<◌, ◌≤◌, length}
use Rattle.std.proofs.Common.{◌∙◌, arith}
use Rattle.protocol.specs.Sending.{about}
use Rattle.item.specs.Item.{items}
use Rattle.packets.specs.{Words.{fitted, packets}, Packing.packed}
use Rattle.restart.specs.Sent.{put_one, put_full, words_many}
use Rattle.restart.proofs.resend.put.Goals as goal

pub returns-then-count : goal.returns-then-count
returns-then-count c =
    let a = c.args in
    let b = about a.m a.content in
    let full : 128 ≤ length (packets a.wire.now) = omega arith in record {
      row = put_full (λ x. x) (fitted b) (packets a.wire.now) full;
      words = put_full packed b (items a.wire.now) (omega (arith, words_many a.wire.now));
    }

pub returns : goal.returns
unfolding about
returns c =
    let a = c.args in
    let j = c.join in
    let n : length a.wire.now - 1 ≡ 128 = omega arith in
    let b = about a.m a.content in
    let room : length (packets a.wire.now) < 128 = omega arith in record {
      row = put_one (λ x. x) (fitted b) (packets a.wire.now) room _ (j.ensures.row.items ∙ rw n);
      words = put_one packed b (items a.wire.now) (omega (arith, words_many a.wire.now)) _ (j.ensures.words ∙ rw n);
    }
