-- A word as an item, and an item as a word. A field is what stands above its place value, modulo the number of its values.
use Rattle.std.specs.Prelude.{◌≡◌, ◌&&◌, List, map, ℕ, ◌+◌, ◌*◌, ◌/◌, ◌%◌, ◌<◌, eqb}
use Rattle.std.proofs.Common.{arith, eqb-true, eq-eqb, ne_eqb}
use Rattle.std.proofs.lemmas.Bool.{eqb-false}
use Rattle.lists.specs.Tests.{either}
use Rattle.words.specs.{Fields.{low, field}, Rows.{PEER, OWNER, row, named}}
use Rattle.item.specs.declared.Item.{Item}

-- the place values
abbrev pub KIND : ℕ
KIND = 16 * OWNER

abbrev pub TN : ℕ
TN = 8 * KIND

abbrev pub VALUE : ℕ
VALUE = 65536 * TN

abbrev pub HOPS : ℕ
HOPS = 65536 * VALUE

abbrev pub FLAGS : ℕ
FLAGS = 8 * HOPS

unfoldable pub item_of : ℕ → Item
item_of w = record {
  sn = w % PEER;
  peer = w / PEER % 16;
  owner = w / OWNER % 16;
  kind = w / KIND % 8;
  tn = w / TN % 65536;
  value = w / VALUE % 65536;
  hops = w / HOPS % 8;
  flags = w / FLAGS % 4;
}

-- a row's words, every bit of each
unfoldable pub items : List ℕ → List Item
items ws = map item_of (row ws)

-- an item with its small fields reduced to their range
unfoldable pub clipped : Item → Item
clipped x = record { sn = x.sn; peer = x.peer % 16; owner = x.owner % 16; kind = x.kind % 8; tn = x.tn; value = x.value; hops = x.hops % 8; flags = x.flags % 4 }

-- the fields in their places
module _ (w n p o k t v h f : ℕ) (e : w ≡ n + PEER * p + OWNER * o + KIND * k + TN * t + VALUE * v + HOPS * h + FLAGS * f)
    (hn : n < 65536) (hp : p < 16) (ho : o < 16) (hk : k < 8) (ht : t < 65536) (hv : v < 65536) (hh : h < 8) (hf : f < 4) where
  pub word_says : item_of w ≡ record { sn = n; peer = p; owner = o; kind = k; tn = t; value = v; hops = h; flags = f }
  unfolding item_of
  word_says =
      let b6 : ℕ = h + 8 * f in
      let b5 : ℕ = v + 65536 * b6 in
      let b4 : ℕ = t + 65536 * b5 in
      let b3 : ℕ = k + 8 * b4 in
      let b2 : ℕ = o + 16 * b3 in
      let x0 : w % PEER ≡ n = low w PEER n (p + 16 * b2) (omega arith) hn in
      let x1 : w / PEER % 16 ≡ p = field w PEER 16 n p b2 (omega arith) hn hp in
      let x2 : w / OWNER % 16 ≡ o = field w OWNER 16 (n + PEER * p) o b3 (omega arith) (omega arith) ho in
      let x3 : w / KIND % 8 ≡ k = field w KIND 8 (n + PEER * p + OWNER * o) k b4 (omega arith) (omega arith) hk in
      let x4 : w / TN % 65536 ≡ t = field w TN 65536 (n + PEER * p + OWNER * o + KIND * k) t b5 (omega arith) (omega arith) ht in
      let x5 : w / VALUE % 65536 ≡ v = field w VALUE 65536 (n + PEER * p + OWNER * o + KIND * k + TN * t) v b6 (omega arith) (omega arith) hv in
      let x6 : w / HOPS % 8 ≡ h = field w HOPS 8 (n + PEER * p + OWNER * o + KIND * k + TN * t + VALUE * v) h f (omega arith) (omega arith) hh in
      let x7 : w / FLAGS % 4 ≡ f = field w FLAGS 4 (n + PEER * p + OWNER * o + KIND * k + TN * t + VALUE * v + HOPS * h) f 0 (omega arith) (omega arith) hf in
      rw (x0, x1, x2, x3, x4, x5, x6, x7)

-- every field of a word is in range
module _ (w : ℕ) where
  pub peer_small : (item_of w).peer < 16
  unfolding item_of
  peer_small = omega arith

  pub owner_small : (item_of w).owner < 16
  unfolding item_of
  owner_small = omega arith

  pub hops_small : (item_of w).hops < 8
  unfolding item_of
  hops_small = omega arith

-- SN and peer are the lowest part of a word
pub by_name : (p n : ℕ) → n < 65536 → (w : ℕ) → (eqb (item_of w).peer p && eqb (item_of w).sn n) ≡ named p n w
unfolding item_of named
by_name p n hn w = either (eqb (w / PEER % 16) p)
    (λ a. either (eqb (w % PEER) n)
    (λ b. rw (a, b, eq-eqb (w % OWNER) (n + PEER * p) (omega (arith, eqb-true))))
    (λ b. rw (a, b, ne_eqb (w % OWNER) (n + PEER * p) (λ z. omega (arith, eqb-false)))))
    (λ a. rw (a, ne_eqb (w % OWNER) (n + PEER * p) (λ z. omega (arith, eqb-false))))
