-- `frames::deliver` meets its contract: 5 pairs of digits, and what they say.
use Rattle.std.specs.Prelude.{Some, ◌≡◌, ℕ, ◌+◌, ◌*◌, get_or}
use Rattle.std.proofs.Common.{◌∙◌, arith}
use Rattle.lists.specs.{Lists.allb, Counting.counting}
use Rattle.protocol.specs.Frames.{Line, parts, two_bytes}
use Rattle.frames.specs.{PairLaws.{behind_none, behind_parts}, Read.{read_as, behind_kind}, Decode.decoded, declared.Frame.TheVariants.Deliver}
use Rattle.frames.proofs.deliver.Goals as goal

pub returns-in_err-kind : goal.returns-in_err-kind
returns-in_err-kind c = c.from_residual.ensures ∙ behind_none c.args.line.now _ 5 c.requires 1 (omega arith) (omega arith) c.in_err-kind.ensures

pub returns-in_err-sender : goal.returns-in_err-sender
returns-in_err-sender c = c.from_residual-in_err-sender.ensures ∙ behind_none c.args.line.now _ 5 c.requires 2 (omega arith) (omega arith) c.in_err-sender.ensures

pub returns-in_err-receiver : goal.returns-in_err-receiver
returns-in_err-receiver c = c.from_residual-in_err-receiver.ensures ∙ behind_none c.args.line.now _ 5 c.requires 3 (omega arith) (omega arith) c.in_err-receiver.ensures

pub returns-in_err-pair : goal.returns-in_err-pair
returns-in_err-pair c = c.from_residual-in_err-pair.ensures ∙ behind_none c.args.line.now _ 5 c.requires 4 (omega arith) (omega arith) c.in_err-pair.ensures

pub returns-in_err-pair-2 : goal.returns-in_err-pair-2
returns-in_err-pair-2 c = c.from_residual-in_err-pair-2.ensures ∙ behind_none c.args.line.now _ 5 c.requires 5 (omega arith) (omega arith) c.in_err-pair-2.ensures

-- what the bytes say of the frame
is_deliver : (l : Line) (k s r n : ℕ) → behind_kind l 0x11 ≡ parts (decoded l) 0x11 → k ≡ get_or (decoded l) 1 0 → s ≡ get_or (decoded l) 2 0
    → r ≡ get_or (decoded l) 3 0 → n ≡ get_or (decoded l) 4 0 * 256 + get_or (decoded l) 5 0
    → Some (Deliver k s r n) ≡ read_as (behind_kind l 0x11)
unfolding read_as parts two_bytes
is_deliver l k s r n e p q t u = rw (e, p, q, t, u)

pub returns : goal.returns
unfolding allb counting
returns c =
    let l = c.args.line.now in
    let kind = c.in_ok-kind.ensures in
    let sender = c.in_ok-sender.ensures in
    let receiver = c.in_ok-receiver.ensures in
    let high = c.in_ok-pair.ensures in
    let low = c.in_ok-pair-2.ensures in
    is_deliver l _ _ _ _ (behind_parts l 0x11 5 c.requires (rw (kind.0, sender.0, receiver.0, high.0, low.0)))
    kind.1 sender.1 receiver.1 (c.from_be_bytes-sn.ensures ∙ rw (high.1, low.1))
