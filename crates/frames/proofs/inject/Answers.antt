-- `frames::inject` meets its contract: 4 pairs of digits, and what they say.
use Rattle.std.specs.Prelude.{Some, ◌≡◌, ℕ, ◌+◌, ◌*◌, get_or}
use Rattle.std.proofs.Common.{◌∙◌, arith}
use Rattle.lists.specs.{Lists.allb, Counting.counting}
use Rattle.protocol.specs.Frames.{Line, parts, two_bytes}
use Rattle.frames.specs.{PairLaws.{behind_none, behind_parts}, Read.{read_as, behind_kind}, Decode.decoded, declared.Frame.TheVariants.Inject}
use Rattle.frames.proofs.inject.Goals as goal

pub returns-in_err-chare : goal.returns-in_err-chare
returns-in_err-chare c = c.from_residual.ensures ∙ behind_none c.args.line.now _ 4 c.requires 1 (omega arith) (omega arith) c.in_err-chare.ensures

pub returns-in_err-pair : goal.returns-in_err-pair
returns-in_err-pair c = c.from_residual-in_err-pair.ensures ∙ behind_none c.args.line.now _ 4 c.requires 2 (omega arith) (omega arith) c.in_err-pair.ensures

pub returns-in_err-pair-2 : goal.returns-in_err-pair-2
returns-in_err-pair-2 c = c.from_residual-in_err-pair-2.ensures ∙ behind_none c.args.line.now _ 4 c.requires 3 (omega arith) (omega arith) c.in_err-pair-2.ensures

pub returns-in_err-hops : goal.returns-in_err-hops
returns-in_err-hops c = c.from_residual-in_err-hops.ensures ∙ behind_none c.args.line.now _ 4 c.requires 4 (omega arith) (omega arith) c.in_err-hops.ensures

-- what the bytes say of the frame
is_inject : (l : Line) (c v h : ℕ) → behind_kind l 0x10 ≡ parts (decoded l) 0x10 → c ≡ get_or (decoded l) 1 0
    → v ≡ get_or (decoded l) 2 0 * 256 + get_or (decoded l) 3 0 → h ≡ get_or (decoded l) 4 0
    → Some (Inject c v h) ≡ read_as (behind_kind l 0x10)
unfolding read_as parts two_bytes
is_inject l c v h e p q r = rw (e, p, q, r)

pub returns : goal.returns
unfolding allb counting
returns c =
    let l = c.args.line.now in
    let chare = c.in_ok-chare.ensures in
    let high = c.in_ok-pair.ensures in
    let low = c.in_ok-pair-2.ensures in
    let hops = c.in_ok-hops.ensures in
    is_inject l _ _ _ (behind_parts l 0x10 4 c.requires (rw (chare.0, high.0, low.0, hops.0))) chare.1 (c.from_be_bytes-value.ensures ∙ rw (high.1, low.1)) hops.1
