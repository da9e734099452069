-- What a send needs to know before it is made: its ticket, and what the questions 7, 8 and 10 say of it.
use Rattle.std.specs.Prelude.{Bool, true, false, cond, ◌&&◌, List, ℕ, ◌+◌, eqb, ltb, leb, length}
use Rattle.std.proofs.Math.Option.{Option, some, none}
use Rattle.protocol.specs.{declared.Entry.Entry, declared.Seen.Seen, Parts.State, Window.admitted, Packets.seen, Tickets.{entry, next_tn}, Sending.is_local}
use Rattle.sends.specs.{declared.ticket.Ticket.Ticket, declared.ticket.Ticket.TheVariants.{Remote, Found, New, TooHigh}}
use Rattle.sends.specs.{declared.plan.Plan.Plan, Ticket.{is_new, tn_of, sn_next}}

-- no new ticket
unfoldable pub idle : Ticket → Plan
idle k = record { ticket = k; admits = true; room = true }

-- a new ticket with the TN t, entered after `count` others; x is the lookup of its SN
unfoldable pub new_plan : ℕ → ℕ → Seen → Plan
new_plan t count x = cond (leb t 60000) (record { ticket = New t; admits = admitted x; room = ltb count 16 }) (idle TooHigh)

unfoldable pub local_plan : ℕ → ℕ → Seen → Option Entry → Plan
local_plan t count x (some e) = idle (Found e.tn)
local_plan t count x none = new_plan t count x

-- The receiver, on the same machine or not, has the table l and its top, and looks up SNs of the sender a, whose last SN to it is
-- `last`. New TNs lie above `base`; `extra` entries come before.
unfoldable pub plan_for : Bool → List Entry → ℕ → (ℕ → Seen) → ℕ → ℕ → ℕ → ℕ → Plan
plan_for near l top look a last base extra =
    cond (ltb last 60000)
    (cond near (local_plan (next_tn base top l) (length l + extra) (look (last + 1)) (entry l a (last + 1))) (idle Remote))
    (idle TooHigh)

-- After a first send with the ticket k, to the same receiver or not: the last SN, the TN that new ones lie above, and the entries that
-- came before.
unfoldable pub last_after : Bool → ℕ → ℕ → ℕ
last_after same n m = cond same (sn_next n) m

unfoldable pub base_after : Bool → Ticket → ℕ → ℕ
base_after same k h = cond (same && is_new k) (tn_of k) h

unfoldable pub extra_after : Bool → Ticket → ℕ
extra_after same k = cond (same && is_new k) 1 0

-- a send from a to d, where `last` is the last SN
unfoldable pub plan_with : State → ℕ → ℕ → ℕ → Bool → Ticket → Plan
plan_with s a d last same k =
    let z = s.live d in
    plan_for (is_local s.job a d) z.table z.highest_at_restart (seen z a) a last (base_after same k z.height) (extra_after same k)

-- with none before it
unfoldable pub plan_of : State → ℕ → ℕ → Plan
plan_of s a b = plan_with s a b ((s.live a).sn b) false Remote

-- after one to b with the ticket k
unfoldable pub plan_after : State → ℕ → ℕ → Ticket → ℕ → Plan
plan_after s a b k d = plan_with s a d (last_after (eqb d b) ((s.live a).sn b) ((s.live a).sn d)) (eqb d b) k
