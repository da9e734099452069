-- Frame 11 keeps the invariant.
use Rattle.std.specs.Prelude.{◌≡◌, true, false, ◌≢◌, List, ℕ}
use Rattle.std.proofs.Math.Path.{refl}
use Rattle.std.proofs.Common.{◌∙◌}
use Rattle.std.proofs.Math.Option.{none}
use Rattle.lists.specs.Lists.{◌∈◌, remove1, remove1_mem}
use Rattle.protocol.specs.declared.Packet.{Packet}
use Rattle.protocol.specs.declared.Content.{Content}
use Rattle.protocol.specs.declared.Content.TheVariants.{Ask as ASK, GrantOld as GRANT-old, GrantReceived as GRANT-received, GrantNew as GRANT-new, Data as DATA, Note as NOTE, Ack as ACK}
use Rattle.protocol.specs.declared.Status.TheVariants.{Down}
use Rattle.protocol.specs.Parts.{State}
use Rattle.protocol.specs.Setters.{with_wire}
use Rattle.protocol.specs.Window.{admitted}
use Rattle.protocol.specs.Packets.{kind, destination, goes_to, is_named, seen, is_worked, entry_of, arrive, deliver}
use Rattle.protocol.specs.Questions.{no_entry, needs_ticket, ticket_admitted}
use Rattle.protocol.specs.CrashFree.{Run}
use Rattle.protocol.proofs.Recovery.Run.Facts.{RunOk}
use Rattle.protocol.proofs.Recovery.Invariant.World.{Pending}
use Rattle.protocol.proofs.Recovery.Invariant.Clauses.{Fits, PacketOk}
use Rattle.protocol.proofs.Recovery.Invariant.Good.{Good}
use Rattle.protocol.proofs.Recovery.Invariant.Later.{packet_later}
use Rattle.protocol.proofs.Recovery.Steps.Wire.{wire_less, later_wire}
use Rattle.protocol.proofs.Recovery.Frames.States.{world_now, good_wire}
use Rattle.protocol.proofs.Recovery.Frames.Contents.{keep_ask, keep_old, keep_received, keep_new, keep_data, keep_note, keep_ack}

-- question 8, for an ASK without entry whose SN is not worked
abbrev Admits : State → Packet → Content → Type 0
Admits s y c = kind c ≡ 1 → entry_of s y ≡ none → is_worked (s.live y.receiver) y.sender y.sn ≡ false → admitted (seen (s.live y.receiver) y.sender y.sn) ≡ true

asked : (s : State) (y : Packet) → ticket_admitted s y ≡ true → Admits s y y.content
unfolding ticket_admitted needs_ticket no_entry
asked s y q k e w = rw (k, e, w) at q

module _ {p : Pending} {s : State} {x : Run} {stable : ℕ → ℕ} (ok : RunOk s.job x) (g : Good p s x stable) (y : Packet) (h : PacketOk (world_now g) y) where
  keep_arrive : (c : Content) → Fits (world_now g) y.sender y.receiver y.sn c
      → s.status (destination s.job (kind c) y.sender y.receiver) ≢ Down → Admits s y c → Good p (arrive s y c) x stable
  unfolding arrive destination kind
  keep_arrive ASK f u q = keep_ask ok g y h.key u f _ refl _ refl (q refl)
  keep_arrive GRANT-old f u q = keep_old ok g y h.key u f.2 f _ refl
  keep_arrive (GRANT-received t) f u q = keep_received ok g y h.key u f.2 t f.1 _ refl
  keep_arrive (GRANT-new t) f u q = keep_new ok g y h.key u f.2 t f.1 f.0 _ refl
  keep_arrive (DATA a b) f u q = keep_data ok g y h.key u a b f _ refl
  keep_arrive (NOTE t) f u q = keep_note ok g y h.key t f
  keep_arrive ACK f u q = keep_ack ok g y h.key u f

  pub keep_content : s.status (goes_to s.job y) ≢ Down → ticket_admitted s y ≡ true → Good p (arrive s y y.content) x stable
  unfolding goes_to
  keep_content u q = keep_arrive y.content h.fits u (asked s y q)

-- the packet leaves the wire, and does what it does
module _ {p : Pending} {s : State} {x : Run} {stable : ℕ → ℕ} (ok : RunOk s.job x) (g : Good p s x stable) (y : Packet) (i : y ∈ s.wire) (l : List Packet)
    (part : (z : Packet) → z ∈ l → z ∈ s.wire) where
  same_question : ticket_admitted (with_wire s l) y ≡ ticket_admitted s y
  unfolding ticket_admitted needs_ticket entry_of
  same_question = refl

  pub keep_packet : s.status (goes_to s.job y) ≢ Down → ticket_admitted s y ≡ true → Good p (arrive (with_wire s l) y y.content) x stable
  unfolding good_wire
  keep_packet u q = keep_content ok (good_wire g l (wire_less g.inv l part)) y (packet_later (later_wire (world_now g) l) y (g.inv.wire y i)) u (same_question ∙ q)

pub keep_deliver : {p : Pending} {s : State} {x : Run} {stable : ℕ → ℕ} → RunOk s.job x → Good p s x stable → (k a r n : ℕ) (y : Packet) → y ∈ s.wire
    → s.status (goes_to s.job y) ≢ Down → ticket_admitted s y ≡ true → Good p (deliver s k a r n y) x stable
unfolding deliver
keep_deliver {s = s} ok g k a r n y i u q = keep_packet ok g y i (remove1 (is_named k a r n) s.wire) (λ z j. remove1_mem _ s.wire j) u q
