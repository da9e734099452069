-- The wire loses packets, or gets packets that fit.
use Rattle.std.specs.Prelude.{refl, List, [], ◌∷◌, ◌++◌}
use Rattle.std.proofs.Common.{le_refl}
use Rattle.lists.specs.Lists.{◌∈◌, All, all_nil, all_cons, all_append}
use Rattle.protocol.specs.declared.Packet.{Packet}
use Rattle.protocol.proofs.Recovery.Invariant.World.{World, Pending, put_wire}
use Rattle.protocol.proofs.Recovery.Invariant.Clauses.{PacketOk, InvP}
use Rattle.protocol.proofs.Recovery.Invariant.Later.{Later, wire_later}

-- no packet reads the wire
pub later_wire : (w : World) (l : List Packet) → Later w (put_wire w l)
later_wire w l = record {
  job = refl;
  sent = λ m h. h;
  stable = λ r s n h. h;
  tick = λ r s n t h. h;
  up = λ p h. h;
  counts = λ s r. le_refl _;
  backed = λ s r n k e h. h;
  acked = λ s r n k e c h. h;
}

module _ {p : Pending} {w : World} (inv : InvP p w) where
  -- any wire of packets that fit will do
  pub wire_new : (l : List Packet) → All (PacketOk w) l → InvP p (put_wire w l)
  wire_new l h = record {
    job = inv.job;
    domain = inv.domain;
    machines = inv.machines;
    images = inv.images;
    heights = inv.heights;
    tables = inv.tables;
    ordered = inv.ordered;
    remembered = inv.remembered;
    noted = inv.noted;
    logs = inv.logs;
    copies = inv.copies;
    notes = inv.notes;
    wire = wire_later (later_wire w l) l h;
  }

  pub wire_less : (l : List Packet) → ((y : Packet) → y ∈ l → y ∈ w.wire) → InvP p (put_wire w l)
  wire_less l part = wire_new l (λ y i. inv.wire y (part y i))

  pub wire_more : (l : List Packet) → All (PacketOk w) l → InvP p (put_wire w (w.wire ++ l))
  wire_more l h = wire_new (w.wire ++ l) (all_append w.wire inv.wire h)

  pub wire_put : (y : Packet) → PacketOk w y → InvP p (put_wire w (w.wire ++ (y ∷ [])))
  wire_put y h = wire_more (y ∷ []) (all_cons h (all_nil _))
