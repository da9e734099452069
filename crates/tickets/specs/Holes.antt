-- The highest TN as it is gathered word by word, and the lowest hole as it is sought.
use Rattle.std.specs.Prelude.{◌≡◌, refl, not, List, [], ◌∷◌, map, ℕ, suc, zero, ◌+◌, ◌-◌, ◌<◌, ◌≤◌, max, Option, None, Some}
use Rattle.std.specs.List.{fold, find, range_with_len}
use Rattle.std.specs.Option.{option_map}
use Rattle.std.proofs.Common.{sym, ap, ◌∙◌, arith, add-one}
use Rattle.std.proofs.Math.Option.{some, none}
use Rattle.lists.specs.{Tests.either, Lists.anyb, Options.maybe}
use Rattle.protocol.specs.{declared.Entry.Entry, Tickets.{has_tn, highest, first_free, lowest_hole}}
use Rattle.words.specs.Rows.{row}
use Rattle.item.specs.Item.{item_of}
use Rattle.tickets.specs.Table.{entry_of, as_entry, entries}

highest_max : (a h : ℕ) (l : List Entry) → max a (highest h l) ≡ highest (max h a) l
unfolding highest
highest_max a h [] = omega arith
highest_max a h (e ∷ l) = omega (arith, highest_max a h l)

-- the TNs of the words ns of a table, gathered one after the other
pub highest_fold : (ws ns : List ℕ) (h : ℕ) → ns ≡ row ws → fold (λ a w. max a (item_of w).tn) h ns ≡ highest h (entries ws)
unfolding entries entry_of as_entry highest
highest_fold ws ns h e = go ns h ∙ ap (λ l. highest h (map entry_of l)) e
  where
    go : (l : List ℕ) (h : ℕ) → fold (λ a w. max a (item_of w).tn) h l ≡ highest h (map entry_of l)
    go [] h = refl
    go (w ∷ l) h = go l (max h (item_of w).tn) ∙ sym (highest_max (item_of w).tn h (map entry_of l))

-- ---- the lowest hole
-- no number is left from n on
pub no_hole : (top n : ℕ) (l : List Entry) → top ≤ n → first_free (top - n) n l ≡ none
unfolding first_free
no_hole top n l h = let f : top - n ≡ 0 = omega arith in rw f

-- there is none between
pub none_between : (height top : ℕ) (l : List Entry) → top ≤ height → lowest_hole height top l ≡ none
unfolding lowest_hole
none_between height top l h = let f : top - height - 1 ≡ top - (height + 1) = omega arith in rw f (no_hole top (height + 1) l (omega arith))

-- the first of the numbers between that no entry has
pub hole_found : (height top : ℕ) (l : List Entry) (o : Option ℕ) → option_map (λ t. t) o ≡ find (λ t. not (anyb (has_tn t) l)) (range_with_len (height + 1) (top - (height + 1))) →
    maybe o ≡ lowest_hole height top l
unfolding lowest_hole first_free
hole_found height top l o e = let f : top - height - 1 ≡ top - (height + 1) = omega arith in rw (f, sym (same o) ∙ e) (go (top - (height + 1)) (height + 1))
  where
    same : (o : Option ℕ) → option_map (λ t. t) o ≡ o
    same None = refl
    same (Some t) = refl

    go : (k t : ℕ) → maybe (find (λ t. not (anyb (has_tn t) l)) (range_with_len t k)) ≡ first_free k t l
    go zero t = refl
    go (suc k) t = either (anyb (has_tn t) l) (λ q. rw (q, add-one t) (go k (suc t))) (λ q. rw q)

free_from : (k t : ℕ) (l : List Entry) {x : ℕ} → first_free k t l ≡ some x → t ≤ x
unfolding first_free
free_from zero t l e = absurd (let z : ◌≡◌ {A = ℕ} 0 1 = cc in omega arith)
free_from (suc k) t l {x} e = either (anyb (has_tn t) l)
    (λ q. omega (arith, free_from k (suc t) l (rw q at e)))
    (λ q. let f = rw q at e in let g : t ≡ x = cc in omega arith)

-- it lies above the height
pub hole_above : (height top : ℕ) (l : List Entry) {x : ℕ} → some x ≡ lowest_hole height top l → height < x
unfolding lowest_hole
hole_above height top l e = omega (arith, free_from (top - height - 1) (height + 1) l (sym e))
