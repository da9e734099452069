-- Document 02, Point 4: "Frame 17 with a chare withdraws the desk's last message to it: the message leaves the desk's log, its ASK
-- leaves the wire, and that SN is free again."
use Rattle.std.specs.Prelude.{Bool, true, false, not, ℕ, ◌-◌}
use Rattle.lists.specs.Map.{upd}
use Rattle.lists.specs.Lists.{keep, remove1}
use Rattle.protocol.specs.declared.Packet.{Packet}
use Rattle.protocol.specs.declared.Lookup.{Lookup}
use Rattle.protocol.specs.declared.Lookup.TheVariants.{Missing, Ticketed, Unticketed}
use Rattle.protocol.specs.Parts.{Memory, State}
use Rattle.protocol.specs.Setters.{with_log, with_sn, with_memory, with_wire}
use Rattle.protocol.specs.Packets.{for_receiver, lookup, is_named}

-- the desk's last message to c has the last SN
unfoldable pub last_sn : State → ℕ → ℕ
last_sn s c = (s.live 0).sn c

-- a message is there, without TN
unfoldable pub without_tn : Lookup → Bool
without_tn Missing = false
without_tn Ticketed = false
without_tn (Unticketed g) = true

-- "in the desk's log without TN"
unfoldable pub logged_without_tn : State → ℕ → ℕ → Bool
logged_without_tn s c n = without_tn (lookup (s.live 0).log c n)

-- what stays on the wire when the ASK of the desk's message n to c leaves
unfoldable pub is_other : ℕ → ℕ → Packet → Bool
is_other c n x = not (is_named 1 0 c n x)

-- the desk's memory without its message n to c, and that SN free
abbrev pub desk_without : Memory → ℕ → ℕ → Memory
desk_without m c n = with_log (with_sn m (upd c (n - 1) m.sn)) (remove1 (for_receiver c n) m.log)

-- the desk's message n to c, its last one, is taken back
unfoldable pub take_back : State → ℕ → ℕ → State
take_back s c n = with_wire (with_memory s 0 (desk_without (s.live 0) c n)) (keep (is_other c n) s.wire)

-- frame 17
unfoldable pub withdraw : State → ℕ → State
withdraw s c = take_back s c (last_sn s c)
