-- `packets::after_restart` meets its contract: the packets that stay are those that go elsewhere.
use Rattle.std.specs.Prelude.{not, eqb}
use Rattle.std.proofs.Common.{rules}
use Rattle.protocol.specs.Packets.{goes_to}
use Rattle.head.specs.Head.{job_of}
use Rattle.item.specs.Both.{both_kept}
use Rattle.packets.specs.Words.{as_packet, unpacked, packets}
use Rattle.packets.proofs.after_restart.Goals as goal

pub returns : goal.returns
unfolding packets unpacked
returns c =
    let a = c.args in
    let stay = both_kept as_packet (λ x. not (eqb (goes_to (job_of a.h.now) x) a.p)) (c.retain.ensures _ (λ w b h p. search rules)) in
    record { row = stay.0; words = stay.1 }
