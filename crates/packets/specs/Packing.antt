-- A packet made a word, bit by bit: a field that its content does not have is 0.
use Rattle.std.specs.Prelude.{◌≡◌, refl, ℕ}
use Rattle.protocol.specs.{declared.Content.Content, declared.Content.TheVariants.{Ask, GrantOld, GrantReceived, GrantNew, Data, Note, Ack}, declared.Packet.Packet}
use Rattle.item.specs.{declared.Item.Item, Item.{item_of, clipped}}
use Rattle.packets.specs.Words.{granted, carried, content_of, as_packet, unpacked, fit_content, fitted}

-- an item with nothing but its content
unfoldable pub bare : ℕ → ℕ → ℕ → ℕ → ℕ → Item
bare k f t v h = record { sn = 0; peer = 0; owner = 0; kind = k; tn = t; value = v; hops = h; flags = f }

unfoldable pub body_of : Content → Item
body_of Ask = bare 1 0 0 0 0
body_of GrantOld = bare 2 0 0 0 0
body_of (GrantReceived t) = bare 2 1 t 0 0
body_of (GrantNew t) = bare 2 2 t 0 0
body_of (Data v h) = bare 3 0 0 v h
body_of (Note t) = bare 4 0 t 0 0
body_of Ack = bare 5 0 0 0 0

unfoldable pub packed : Packet → Item
packed p =
    let x = body_of p.content in
    clipped (record { sn = p.sn; peer = p.receiver; owner = p.sender; kind = x.kind; tn = x.tn; value = x.value; hops = x.hops; flags = x.flags })

body_says : (c : Content) → content_of (clipped (body_of c)) ≡ fit_content c
unfolding content_of carried granted clipped body_of bare fit_content
body_says Ask = refl
body_says GrantOld = refl
body_says (GrantReceived t) = refl
body_says (GrantNew t) = refl
body_says (Data v h) = refl
body_says (Note t) = refl
body_says Ack = refl

pub packed_packet : (w : ℕ) (p : Packet) → item_of w ≡ packed p → unpacked w ≡ fitted p
unfolding unpacked as_packet fitted packed clipped content_of
packed_packet w p e = rw (e, ← body_says p.content)
