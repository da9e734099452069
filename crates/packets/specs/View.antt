-- What is found on a wire, and the wire without it.
use Rattle.std.specs.Prelude.{Bool, cond, List, ◌≡◌, refl, ℕ, suc, ◌+◌, ◌<◌, ◌≤◌, ltb, length, get_or, Option as Maybe, None, Some}
use Rattle.std.specs.List.{position, position_or_len}
use Rattle.std.proofs.Common.{sym, ap, ◌∙◌, arith, ltb-true, ltb-false}
use Rattle.std.proofs.lemmas.List.Recursion.{is_position_or_len}
use Rattle.std.proofs.Math.Option.{Option, some, none}
use Rattle.lists.specs.{Lists.{find, remove1}, Tests.either}
use Rattle.arrays.specs.Place.{place, remove_there}
use Rattle.protocol.specs.declared.Packet.{Packet}
use Rattle.words.specs.{Rows.{row, without}, Mapped.{find_at, find_no, place_map}}
use Rattle.packets.specs.{Words.{unpacked, packets}, declared.Found.Found}

-- the packet that was found
unfoldable pub found : Maybe Found → Option Packet
found None = none
found (Some f) = some f.packet

unfoldable pub found_at : ℕ → Option Packet → Maybe Found
found_at i none = None
found_at i (some p) = Some (record { place = i; packet = p })

-- the oldest packet that passes a test, and its place
unfoldable pub sought : (Packet → Bool) → List Packet → Maybe Found
sought q l = found_at (place q l) (find q l)

module _ (q : Packet → Bool) (l : List Packet) where
  packet_of : (o : Option Packet) → found (found_at (place q l) o) ≡ o
  unfolding found found_at
  packet_of none = refl
  packet_of (some p) = refl

  place_of : (o : Option Packet) {f : Found} → Some f ≡ found_at (place q l) o → f.place ≡ place q l
  unfolding found_at
  place_of none e = absurd (let z : ◌≡◌ {A = ℕ} 0 1 = cc in omega arith)
  place_of (some p) e = cc

  pub sought_packet : {f : Maybe Found} → f ≡ sought q l → found f ≡ find q l
  unfolding sought
  sought_packet e = ap found e ∙ packet_of (find q l)

  pub sought_left : {f : Found} → Some f ≡ sought q l → remove1 q l ≡ without f.place l
  unfolding sought without
  sought_left e = remove_there q l ∙ rw (← place_of (find q l) e)

-- the place n below m, if it is one
placed : (n m : ℕ) {i : ℕ} → cond (ltb n m) (Some n) None ≡ Some i → (i ≡ n) × (n < m)
placed n m {i} s = either (ltb n m)
    (λ e. (let d : Some n ≡ Some i = rw e at s in cc, ltb-true n m e))
    (λ e. absurd (let d : ◌≡◌ {A = Maybe ℕ} None (Some i) = rw e at s in let z : ◌≡◌ {A = ℕ} 0 1 = cc in omega arith))

beyond : (n m : ℕ) → cond (ltb n m) (Some n) None ≡ None → m ≤ n
beyond n m s = either (ltb n m)
    (λ e. absurd (let d : ◌≡◌ {A = Maybe ℕ} (Some n) None = rw e at s in let z : ◌≡◌ {A = ℕ} 0 1 = cc in omega arith))
    (λ e. ltb-false n m e)

-- r is the place of the first word that passes the test t, if one does
module _ (ws : List ℕ) (t : ℕ → Bool) (q : Packet → Bool) (same : (w : ℕ) → q (unpacked w) ≡ t w) (r : Maybe ℕ) (is_first : r ≡ position t (row ws)) where
  as_place : position_or_len t (row ws) ≡ place t (row ws)
  unfolding place
  as_place = sym (is_position_or_len (place t) t refl (λ x l. let e : 1 + place t l ≡ suc (place t l) = omega arith in rw e) (row ws))

  pub sought_at : {i : ℕ} → r ≡ Some i → Some (record { place = i; packet = unpacked (get_or (row ws) i 0) }) ≡ sought q (packets ws)
  unfolding sought found_at packets
  sought_at {i} s =
      let there = placed _ (length (row ws)) (sym is_first ∙ s) in
      let e : i ≡ place t (row ws) = there.0 ∙ as_place in
      rw (find_at unpacked t q same (row ws) i e (omega (arith, as_place, there.1)), place_map unpacked t q same (row ws), ← e)

  pub sought_none : r ≡ None → None ≡ sought q (packets ws)
  unfolding sought found_at packets
  sought_none s =
      let h : length (row ws) ≤ place t (row ws) = rw as_place at (beyond _ (length (row ws)) (sym is_first ∙ s)) in
      rw (find_no unpacked t q same (row ws) (place t (row ws)) refl h)
