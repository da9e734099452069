-- What a wire can hold: its room, and the range of every field of a packet on it.
use Rattle.std.specs.Prelude.{Bool, List, ◌≡◌, refl, ℕ, ◌-◌, ◌<◌, ◌≤◌, eqb, length, Some}
use Rattle.std.proofs.Common.{sym, arith, mod-eq_of_lt}
use Rattle.protocol.specs.{declared.Content.Content, declared.Packet.Packet}
use Rattle.words.specs.{Rows.row, Mapped.find_holds}
use Rattle.item.specs.{Item.item_of, Held.held_fit}
use Rattle.packets.specs.{Words.{granted, carried, pick, content_of, as_packet, unpacked, fit_content, fitted, packets}, View.{found, sought, sought_packet}, declared.Found.Found}

pub packets_fit : (ws : List ℕ) → length (packets ws) ≤ length ws - 1
unfolding packets
packets_fit ws = held_fit unpacked ws

-- a packet that a word can hold
pub record Fits (p : Packet) : Type 0 where
  pub sender : p.sender < 16
  pub receiver : p.receiver < 16
  pub sn : p.sn < 65536
  pub content : fit_content p.content ≡ p.content

pub fits_same : (p : Packet) → Fits p → fitted p ≡ p
unfolding fitted
fits_same p h = λ i. record { sender = mod-eq_of_lt h.sender i; receiver = mod-eq_of_lt h.receiver i; sn = p.sn; content = h.content i }

content_fits : (k f t v h : ℕ) → h < 8 → fit_content (carried k f t v h) ≡ carried k f t v h
unfolding granted carried fit_content
content_fits k f t v h small =
    let same : Content → Type 0 = λ c. fit_content c ≡ c in
    pick same (eqb k 1) refl
    (pick same (eqb k 2) (pick same (eqb f 0) refl (pick same (eqb f 1) refl refl))
    (pick same (eqb k 3) (rw (mod-eq_of_lt small)) (pick same (eqb k 4) refl refl)))

-- every word's packet does
word_fits : (w : ℕ) → Fits (unpacked w)
unfolding unpacked as_packet content_of item_of
word_fits w = record { sender = omega arith; receiver = omega arith; sn = omega arith; content = content_fits _ _ _ _ _ (omega arith) }

pub sought_fits : (ws : List ℕ) (q : Packet → Bool) {f : Found} → Some f ≡ sought q (packets ws) → Fits f.packet
unfolding found packets
sought_fits ws q e = find_holds unpacked Fits word_fits q (row ws) (sym (sought_packet q (packets ws) e))
