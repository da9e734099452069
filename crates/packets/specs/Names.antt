-- The name of a word's packet: the kind that its kind field shows, and all that stands below it.
use Rattle.std.specs.Prelude.{Bool, false, ◌&&◌, List, ◌≡◌, refl, ℕ, ◌+◌, ◌*◌, ◌/◌, ◌%◌, ◌<◌, ◌≤◌, eqb, None, Result, Ok, Err, ◌⊎◌}
use Rattle.std.proofs.Common.{sym, arith, eqb-true, eq-eqb, ne_eqb}
use Rattle.std.proofs.Math.Bool.{and-true}
use Rattle.std.proofs.lemmas.Bool.{eqb-false}
use Rattle.lists.specs.Tests.{either, and4}
use Rattle.arrays.specs.Place.{not_found}
use Rattle.std.specs.Result.{result_unwrap_or}
use Rattle.protocol.specs.{Packets.{kind, is_named}, Numbers.{kind_number, KindOf}, declared.Kind.Kind, declared.Kind.TheVariants.{Ask, Grant, Data, Note, Ack}, declared.Refusal.Refusal}
use Rattle.words.specs.Rows.{PEER, OWNER, row}
use Rattle.item.specs.{Item.{KIND, item_of, owner_small, peer_small}, Held.held_never}
use Rattle.packets.specs.{Words.{granted, carried, pick, content_of, as_packet, unpacked, packets}, View.{found_at, sought}}

-- ---- the kind
grant_kind : (f t : ℕ) → kind (granted f t) ≡ 2
unfolding kind granted
grant_kind f t = pick (λ c. kind c ≡ 2) (eqb f 0) refl (pick (λ c. kind c ≡ 2) (eqb f 1) refl refl)

module _ (w : ℕ) where
  -- the kind of a word's packet
  shown : (k : Kind) → kind_number k ≡ w / KIND % 8 → kind_number k ≡ kind (unpacked w).content
  unfolding unpacked as_packet content_of item_of kind carried
  shown Ask e = rw (← e)
  shown Grant e = rw (← e) (sym (grant_kind (item_of w).flags (item_of w).tn))
  shown Data e = rw (← e)
  shown Note e = rw (← e)
  shown Ack e = rw (← e)

  -- one that no packet has counts as ACK
  pub kind_none : (k : ℕ) → k ≡ w / KIND % 8 → (1 ≤ k → k ≤ 5 → ⊥) → 5 ≡ kind (unpacked w).content
  unfolding unpacked as_packet content_of item_of kind carried
  kind_none k e n =
      let miss : (j : ℕ) → 1 ≤ j → j ≤ 4 → eqb k j ≡ false = λ j a b. ne_eqb k j (λ q. n (omega arith) (omega arith)) in
      rw (← e, miss 1 (omega arith) (omega arith), miss 2 (omega arith) (omega arith), miss 3 (omega arith) (omega arith), miss 4 (omega arith) (omega arith))

  pub kind_shown : (r : Result Kind Refusal) → KindOf (w / KIND % 8) r → kind_number (result_unwrap_or r Ack) ≡ kind (unpacked w).content
  kind_shown (Ok k) h = shown k h
  kind_shown (Err e) h = kind_none _ refl (λ a b. let out : (w / KIND % 8 < 1) ⊎ (5 < w / KIND % 8) = h.1 in omega arith)

-- ---- the name: sender, receiver and SN in one number, then the kind
unfoldable pub has_name : ℕ → ℕ → ℕ → Bool
has_name name k w = eqb (w % KIND) name && eqb (kind (unpacked w).content) k

module _ (k s r n w : ℕ) where
  -- another name, because not all of it can be the same
  differs : ((item_of w).owner ≡ s → (item_of w).peer ≡ r → (item_of w).sn ≡ n → ⊥) → is_named k s r n (unpacked w) ≡ false
  unfolding is_named unpacked as_packet
  differs d = either (is_named k s r n (unpacked w))
      (λ e. let (_, x, y, z) = and4 (eqb (kind (content_of (item_of w))) k) _ _ _ e in absurd (d (eqb-true _ _ x) (eqb-true _ _ y) (eqb-true _ _ z)))
      (λ e. e)

  pub by_name : s < 16 → r < 16 → n < 65536 → is_named k s r n (unpacked w) ≡ has_name (n + PEER * r + OWNER * s) k w
  unfolding has_name is_named unpacked as_packet item_of
  by_name hs hr hn = either (eqb (w % KIND) (n + PEER * r + OWNER * s))
      (λ e.
      let m = eqb-true (w % KIND) (n + PEER * r + OWNER * s) e in
      let x : w / OWNER % 16 ≡ s = omega arith in
      let y : w / PEER % 16 ≡ r = omega arith in
      let z : w % PEER ≡ n = omega arith in
      rw (e, eq-eqb (w / OWNER % 16) s x, eq-eqb (w / PEER % 16) r y, eq-eqb (w % PEER) n z) (simp and-true))
      (λ e. rw e (differs (λ x y z. eqb-false (w % KIND) (n + PEER * r + OWNER * s) e (omega arith))))

-- nobody has a number above 15
pub nobody : (ws : List ℕ) (k s r n : ℕ) → (s < 16 → r < 16 → ⊥) → None ≡ sought (is_named k s r n) (packets ws)
unfolding sought found_at packets
nobody ws k s r n out =
    let far : (w : ℕ) → is_named k s r n (unpacked w) ≡ false = λ w. differs k s r n w (λ x y z. out (rw (← x) (owner_small w)) (rw (← y) (peer_small w))) in
    rw (not_found (is_named k s r n) (packets ws) (held_never unpacked (is_named k s r n) far (row ws)))
