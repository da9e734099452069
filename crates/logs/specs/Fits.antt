-- A word as a message: its name, and what of it fits a word again: chares below 16, hops below 8, other numbers below 65536. A log has at
-- most as many messages as there is room.
use Rattle.std.specs.Prelude.{◌≡◌, refl, List, ℕ, ◌-◌, ◌<◌, ◌≤◌, eqb, length, get_or}
use Rattle.std.proofs.Common.{arith, mod-eq_of_lt}
use Rattle.std.proofs.Math.ListN.{get_or-map as List·getD-map}
use Rattle.std.proofs.Math.Option.{Option, some, none}
use Rattle.lists.specs.{Tests.either, Lists.find}
use Rattle.protocol.specs.{declared.Message.Message, declared.Logged.Logged, declared.Lookup.TheVariants.Unticketed, Packets.{for_receiver, looked_up, lookup, set_tn}}
use Rattle.words.specs.{Rows.{row, named}, Mapped.find_holds}
use Rattle.item.specs.{Item.{item_of, by_name as item-name}, Held.held_fit}
use Rattle.logs.specs.Log.{logged_of, as_logged, fitted, packed, entries}

-- receiver and SN are the name
pub by_name : (r n : ℕ) → n < 65536 → (w : ℕ) → for_receiver r n (logged_of w) ≡ named r n w
unfolding for_receiver logged_of as_logged
by_name r n hn w = item-name r n hn w

pub entries_fit : (ws : List ℕ) → length (entries ws) ≤ length ws - 1
unfolding entries
entries_fit ws = held_fit logged_of ws

pub record Fits (m : Message) : Type 0 where
  pub sender : m.sender < 16
  pub receiver : m.receiver < 16
  pub sn : m.sn < 65536
  pub value : m.value < 65536
  pub hops : m.hops < 8

pub word_fits : (w : ℕ) → Fits (logged_of w).message
unfolding logged_of as_logged item_of
word_fits w = record { sender = omega arith; receiver = omega arith; sn = omega arith; value = omega arith; hops = omega arith }

-- what fits, a word holds as it is
pub fitted_same : (x : Logged) → Fits x.message → fitted x ≡ x
unfolding fitted
fitted_same x h = rw (mod-eq_of_lt h.sender, mod-eq_of_lt h.receiver, mod-eq_of_lt h.hops)

-- a message of a log, with any TN
pub packed_tn : (t w : ℕ) → as_logged (packed (set_tn t (logged_of w))) ≡ set_tn t (logged_of w)
unfolding set_tn as_logged packed fitted
packed_tn t w = fitted_same (set_tn t (logged_of w)) (word_fits w)

-- what a lookup without a TN gives is the message found
is_found : (o : Option Logged) (m : Message) → Unticketed m ≡ looked_up o → (x : Logged) × (o ≡ some x) × (m ≡ x.message)
unfolding looked_up
is_found none m e = absurd (let z : ◌≡◌ {A = ℕ} 0 1 = cc in omega arith)
is_found (some x) m e = either (eqb x.tn 0)
    (λ q. (x, refl, cc (rw q at e)))
    (λ q. absurd (let d = rw q at e in let z : ◌≡◌ {A = ℕ} 0 1 = cc in omega arith))

pub unticketed_fits : (ws : List ℕ) (r n : ℕ) (m : Message) → Unticketed m ≡ lookup (entries ws) r n → Fits m
unfolding lookup entries
unticketed_fits ws r n m e =
    let f = is_found (find (for_receiver r n) (entries ws)) m e in
    rw f.2 (find_holds logged_of (λ y. Fits y.message) word_fits (for_receiver r n) (row ws) f.1)
