-- Packets put on a wire of 128 one by one, where there was room for them all.
use Rattle.std.specs.Prelude.{◌≡◌, Bool, true, false, List, [], ◌∷◌, ◌++◌, map, ℕ, ◌<◌, ◌≤◌, length}
use Rattle.std.proofs.Common.{sym, ap, ◌∙◌, append_assoc, append-nil, arith, le-leb, length-append}
use Rattle.std.proofs.Math.Option.{Option}
use Rattle.std.proofs.lemmas.Bool.{lt-leb}
use Rattle.arrays.specs.Front.{push, push_fits}
use Rattle.protocol.specs.{declared.Logged.Logged, declared.Packet.Packet, Parts.State}
use Rattle.logs.specs.Fits.{Fits}
use Rattle.item.specs.{declared.Item.Item, Item.items, Both.as_many}
use Rattle.packets.specs.{Words.{fitted, unpacked, packets}, Packing.packed}
use Rattle.restart.specs.{Limited.{held, limit, one, more, more_limit}, Resends.{again, again_fits}}

abbrev pub one_more : List Packet → Packet → List Packet
one_more l x = l ++ (x ∷ [])

abbrev pub putting : List Packet → List Packet → Option (List Packet)
putting l xs = more 128 one_more (held true l) xs

-- bit by bit
abbrev pub word_more : List Item → Packet → List Item
word_more l x = l ++ (packed x ∷ [])

abbrev pub putting_words : List Item → List Packet → Option (List Item)
putting_words l xs = more 128 word_more (held true l) xs

-- ---- one of them, b, as f makes it
module _ {A B : Type 0} (f : B → A) (b : B) (l : List A) where
  pub put_one : length l < 128 → (out : List A) → out ≡ push 128 l (f b) → held true out ≡ more 128 (λ k x. k ++ (f x ∷ [])) (held true l) (b ∷ [])
  unfolding more one limit held
  put_one h out e = rw (e, push_fits 128 l (f b) h, le-leb (length (l ++ (f b ∷ []))) 128 (simp length-append (omega arith)))

  pub put_full : 128 ≤ length l → held false l ≡ more 128 (λ k x. k ++ (f x ∷ [])) (held true l) (b ∷ [])
  unfolding more one limit held
  put_full h = rw (lt-leb (length (l ++ (f b ∷ []))) 128 (simp length-append (omega arith)))

pub words_many : (ws : List ℕ) → length (items ws) ≡ length (packets ws)
unfolding packets
words_many ws = as_many unpacked ws

-- a logged message sent again, as no packet or one: what a word holds is what goes out
pub put_again : (x : Logged) → Fits x.message → (s : State) (p : ℕ) (here : Bool) (o : List Packet) → o ≡ again s p here x
    → (l : List Packet) (a : Option (List Packet)) → a ≡ putting l (map fitted o) → a ≡ putting l (again s p here x)
put_again x fits s p here o e l a put = put ∙ ap (putting l) (ap (map fitted) e ∙ again_fits x fits s p here)

-- ---- all packets
pub putting_all : (l xs : List Packet) → length l ≤ 128 → putting l xs ≡ limit 128 (l ++ xs)
putting_all = more_limit 128 one_more ◌++◌ append-nil (λ l x xs. sym (append_assoc l (x ∷ []) xs)) (λ l x. omega (arith, length-append l (x ∷ [])))
