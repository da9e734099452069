-- What is read of a store: its head and the places of its memories, in the view's words, and how much its rows can hold.
use Rattle.std.specs.Prelude.{◌≡◌, refl, Bool, List, ℕ, ◌<◌, ◌≤◌, length}
use Rattle.std.proofs.Common.{◌∙◌, arith}
use Rattle.protocol.specs.{Sending.is_local, Packets.seen}
use Rattle.words.specs.Part.{part, part_length}
use Rattle.head.specs.Head.{job_of}
use Rattle.packets.specs.{Words.packets, Fits.packets_fit}
use Rattle.memory.specs.{Places.{TABLE, LOG, ROW, MEMORY}, View.memory_view}
use Rattle.store.specs.{Places.{WIRE, PACKETS, STORE, live_from}, View.view, ViewLaws.{wire_at, live_at}}
use Rattle.sends.specs.{declared.plan.Plan.Plan, declared.ticket.Ticket.Ticket, Plan.{plan_for, plan_with, base_after, extra_after}}
use Rattle.tickets.specs.Table as tickets
use Rattle.tickets.specs.Fits as table_fits
use Rattle.logs.specs.Log as logs
use Rattle.logs.specs.Fits as log-fits

pub job_at : (xs : List ℕ) → (view xs).job ≡ job_of xs
unfolding view
job_at xs = refl

-- the plan of a send, from the receiver's memory; n is the last SN
pub planned : (xs : List ℕ) (a b : ℕ) → b < 13 → (near : Bool) → near ≡ is_local (job_of xs) a b → (last n : ℕ) → last ≡ n → (same : Bool) (k : Ticket) (p : Plan)
    → (let y = memory_view (part (live_from b) MEMORY xs) in p ≡ plan_for near y.table y.highest_at_restart (seen y a) a last (base_after same k y.height) (extra_after same k))
    → p ≡ plan_with (view xs) a b n same k
unfolding plan_with
planned xs a b b-in near near-is last n last-is same k p e = e ∙ rw (near-is, ← job_at xs, last-is, live_at xs b b-in)

module _ (ws : List ℕ) (size : length ws ≡ MEMORY) where
  pub table_top : length (tickets.entries (part TABLE ROW ws)) ≤ 16
  table_top = omega (arith, table_fits.entries_fit (part TABLE ROW ws), part_length TABLE ROW ws (omega arith))

  pub log_top : length (logs.entries (part LOG ROW ws)) ≤ 16
  log_top = omega (arith, log-fits.entries_fit (part LOG ROW ws), part_length LOG ROW ws (omega arith))

module _ (xs : List ℕ) (size : length xs ≡ STORE) where
  pub packets_top : length (packets (part WIRE PACKETS xs)) ≤ 128
  packets_top = omega (arith, packets_fit (part WIRE PACKETS xs), part_length WIRE PACKETS xs (omega arith))

  pub wire_top : length (view xs).wire ≤ 128
  wire_top = rw (wire_at xs) packets_top
