-- `packets::leave_all` meets its contract: the packets that stay are those of other names.
use Rattle.std.specs.Prelude.{not}
use Rattle.std.proofs.Common.{rules}
use Rattle.protocol.specs.Packets.{is_named}
use Rattle.item.specs.Both.{both_kept}
use Rattle.packets.specs.Words.{as_packet, unpacked, packets}
use Rattle.packets.proofs.leave_all.Goals as goal

pub returns : goal.returns
unfolding packets unpacked
returns c =
    let a = c.args in
    let stay = both_kept as_packet (λ x. not (is_named a.kind a.sender a.receiver a.sn x)) (c.retain.ensures _ (λ w b h p. search rules)) in
    record { row = stay.0; words = stay.1 }
