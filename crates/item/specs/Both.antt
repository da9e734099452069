-- A row read in two ways at once: every bit of each word, and what its item means.
use Rattle.std.specs.Prelude.{◌≡◌, refl, Bool, List, [], ◌∷◌, map, ℕ, ◌≤◌, ◌<◌, length, get_or, set}
use Rattle.std.proofs.Common.{sym, ap, ◌∙◌}
use Rattle.std.proofs.lemmas.List.{length-map}
use Rattle.lists.specs.{Tests.either, Lists.{keep, keep_map, change1}}
use Rattle.arrays.specs.Place.{place}
use Rattle.words.specs.{Rows.row, Becomes.{Becomes, becomes_same, becomes_mapped}, Mapped.{change_at, change_no}}
use Rattle.item.specs.{declared.Item.Item, Item.{item_of, items}}

-- as many items as a row has words, and as it has meanings of them
pub items_length : (ws : List ℕ) → length (items ws) ≡ length (row ws)
unfolding items
items_length ws = length-map (row ws) item_of

pub as_many : {A : Type 0} (f : ℕ → A) (ws : List ℕ) → length (items ws) ≡ length (map f (row ws))
as_many f ws = items_length ws ∙ sym (length-map (row ws) f)

module _ {A : Type 0} (means : Item → A) where
  seen : (l : List ℕ) → map means (map item_of l) ≡ map (λ w. means (item_of w)) l
  seen [] = refl
  seen (w ∷ l) = ap (means (item_of w) ∷◌) (seen l)

  both : {before after : List ℕ} {l : List Item} {k : List A} → Becomes items before after l → map means l ≡ k →
      Becomes (λ ws. map (λ w. means (item_of w)) (row ws)) before after k × (items after ≡ l)
  unfolding items
  both {before} {after} {l} b e = (
    rw (← e) (record {
      items = sym (seen (row after)) ∙ ap (map means) b.items;
      count = rw (length-map l means, length-map (row before) (λ w. means (item_of w)), ← length-map (row before) item_of) b.count;
      behind = rw (length-map l means) b.behind;
    }),
    b.items,
  )

  -- those that pass, as they are
  pub both_kept : (p : A → Bool) {before after : List ℕ} → Becomes items before after (keep (λ x. p (means x)) (items before)) →
      Becomes (λ ws. map (λ w. means (item_of w)) (row ws)) before after (keep p (map (λ w. means (item_of w)) (row before))) × (items after ≡ keep (λ x. p (means x)) (items before))
  unfolding items
  both_kept p {before} b = both b (sym (keep_map means p (items before)) ∙ ap (keep p) (seen (row before)))

  -- g changes what an item means as change does the item
  module _ (p : A → Bool) (g : A → A) (change : Item → Item) (same : (w : ℕ) → means (change (item_of w)) ≡ g (means (item_of w))) where
    sift_seen : (l : List ℕ) → map means (map change (keep (λ x. p (means x)) (map item_of l))) ≡ map g (keep p (map (λ w. means (item_of w)) l))
    unfolding keep
    sift_seen [] = refl
    sift_seen (w ∷ l) = either (p (means (item_of w))) (λ e. rw (e, same w) (ap (g (means (item_of w)) ∷◌) (sift_seen l))) (λ e. rw e (sift_seen l))

    change_seen : (l : List ℕ) → map means (change1 (λ x. p (means x)) change (map item_of l)) ≡ change1 p g (map (λ w. means (item_of w)) l)
    unfolding change1
    change_seen [] = refl
    change_seen (w ∷ l) = either (p (means (item_of w))) (λ e. rw (e, same w) (ap (g (means (item_of w)) ∷◌) (seen l))) (λ e. rw e (ap (means (item_of w) ∷◌) (change_seen l)))

    -- those that pass, changed
    pub both_sifted : {before after : List ℕ} → Becomes items before after (map change (keep (λ x. p (means x)) (items before))) →
        Becomes (λ ws. map (λ w. means (item_of w)) (row ws)) before after (map g (keep p (map (λ w. means (item_of w)) (row before)))) × (items after ≡ map change (keep (λ x. p (means x)) (items before)))
    unfolding items
    both_sifted {before} b = both b (sift_seen (row before))

    -- the place i of the first that passes in hand: a word x is written there, or there is none
    module _ (q : ℕ → Bool) (by : (w : ℕ) → p (means (item_of w)) ≡ q w) (before : List ℕ) (i : ℕ) (e : i ≡ place q (row before)) where
      pub both_changed : {after : List ℕ} (x : ℕ) → Becomes row before after (set (row before) i x) → i < length (row before) → item_of x ≡ change (item_of (get_or (row before) i 0)) →
          Becomes (λ ws. map (λ w. means (item_of w)) (row ws)) before after (change1 p g (map (λ w. means (item_of w)) (row before))) × (items after ≡ change1 (λ x. p (means x)) change (items before))
      unfolding items
      both_changed x b h d = both (becomes_mapped item_of b (change_at item_of q (λ x. p (means x)) by (row before) i e change x h d)) (change_seen (row before))

      pub both_same : length (row before) ≤ i →
          Becomes (λ ws. map (λ w. means (item_of w)) (row ws)) before before (change1 p g (map (λ w. means (item_of w)) (row before))) × (items before ≡ change1 (λ x. p (means x)) change (items before))
      unfolding items
      both_same h = both (becomes_same items before (change_no item_of q (λ x. p (means x)) by (row before) i e change h)) (change_seen (row before))
