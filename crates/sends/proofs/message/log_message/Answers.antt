use Rattle.std.specs.Prelude.{length, set, ◌+◌, ◌≤◌}
use Rattle.std.proofs.Common.{◌∙◌, arith, length-set, rules}
use Rattle.words.specs.Part.{put_length}
use Rattle.memory.specs.Places.{SN, LOG, ROW}
use Rattle.sends.specs.InMemory.{logged_put}
use Rattle.sends.proofs.message.log_message.Goals as goal

pub shape_of-x : goal.shape_of-x
shape_of-x c =
    let a = c.args in
    let h : LOG + ROW ≤ length (set a.x.now (SN + a.m.receiver) a.m.sn) = simp length-set (omega arith) in
    put_length LOG ROW (set a.x.now (SN + a.m.receiver) a.m.sn) c.push.new.ws h (omega arith) ∙ length-set a.x.now (SN + a.m.receiver) a.m.sn

pub returns : goal.returns
returns c =
    let a = c.args in
    logged_put a.x.now c.push.new.ws (search rules) (omega arith) a.m a.tn (record { sender = omega arith; receiver = omega arith; sn = search rules; value = search rules; hops = omega arith }) c.push.ensures.row.items
