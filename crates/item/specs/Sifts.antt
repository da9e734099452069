-- What a closure answers for the words of a row that is sifted: of a word's item it sees every bit.
use Rattle.std.specs.Prelude.{◌≡◌, Bool, true, false, ℕ, ◌<◌, ◌^◌, Option, MatchOption}
use Rattle.item.specs.{declared.Item.Item, Item.{item_of}}

module _ (stays : Item → Bool) (becomes : Item → Item) where
  -- nothing for an item that does not stay, else what becomes of it
  abbrev pub Answered : ℕ → Option ℕ → Type 0
  Answered w o = MatchOption o (stays (item_of w) ≡ false) (λ x. (stays (item_of w) ≡ true) × (item_of x ≡ becomes (item_of w)))

  abbrev pub Sifts : (ℕ → Option ℕ → Type 0) → Type 0
  Sifts answers = (w : ℕ) (o : Option ℕ) → w < 2 ^ 64 → answers w o → Answered w o

-- whether it stays
abbrev pub Keeps : (Item → Bool) → (ℕ → Bool → Type 0) → Type 0
Keeps stays answers = (w : ℕ) (b : Bool) → w < 2 ^ 64 → answers w b → b ≡ stays (item_of w)
