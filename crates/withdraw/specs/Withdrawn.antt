-- What frame 17 leaves where the store stands: the desk's memory, then the wire.
use Rattle.std.specs.Prelude.{◌≡◌, not, List, ℕ, ◌+◌, ◌-◌, ◌<◌, length, set}
use Rattle.std.proofs.Common.{◌∙◌, arith, length-set}
use Rattle.lists.specs.Lists.{keep, remove1}
use Rattle.protocol.specs.{Packets.{for_receiver, is_named}, Withdraw.{is_other, desk_without, take_back}}
use Rattle.words.specs.Part.{part, put}
use Rattle.logs.specs.Log.{entries}
use Rattle.packets.specs.Words.{packets}
use Rattle.memory.specs.{Places.{SN, LOG, ROW, MEMORY}, Numbers.sn_set, View.{memory_view, log_changed}}
use Rattle.store.specs.{Places.{WIRE, PACKETS, STORE, live_from}, View.view, ViewLaws.{wire_at, live_length, live_changed, wire_put}}

-- ---- in the desk's memory: k is the SN before n; ys is the log afterwards
module _ (ws ys : List ℕ) (size : length ws ≡ MEMORY) (long : length ys ≡ ROW) (c n k : ℕ) (c-in : c < 13) (n-in : n < 65536) (k-is : k ≡ n - 1) where
  abbrev counted : List ℕ
  counted = set ws (SN + c) k

  pub forgotten_put : entries ys ≡ remove1 (for_receiver c n) (entries (part LOG ROW counted)) → memory_view (put LOG ROW counted ys) ≡ desk_without (memory_view ws) c n
  forgotten_put e =
      log_changed counted ys (simp length-set size) long (remove1 (for_receiver c n)) e
      ∙ rw (sn_set ws size k c (omega arith) (omega arith), k-is)

-- ---- in the store: ys is the desk's memory afterwards, zs then the wire
module _ (xs : List ℕ) (size : length xs ≡ STORE) (c n : ℕ) (ys : List ℕ) (ly : length ys ≡ MEMORY) (forgets : memory_view ys ≡ desk_without (memory_view (part (live_from 0) MEMORY xs)) c n) where
  abbrev x1 : List ℕ
  x1 = put (live_from 0) MEMORY xs ys

  pub taken_back : (zs : List ℕ) → length zs ≡ PACKETS → packets zs ≡ keep (λ x. not (is_named 1 0 c n x)) (packets (part WIRE PACKETS x1))
      → view (put WIRE PACKETS x1 zs) ≡ take_back (view xs) c n
  unfolding take_back is_other
  taken_back zs lz leaves =
      wire_put x1 (live_length xs size 0 (omega arith) ys ly) zs lz
      ∙ rw (leaves, ← wire_at x1, live_changed xs size 0 (omega arith) ys ly (λ m. desk_without m c n) forgets)
