-- The entries as their words are read: ns are the words of a table where they stand.
use Rattle.std.specs.Prelude.{◌≡◌, refl, Bool, ◌||◌, List, [], ◌∷◌, map, ℕ, Option, None, Some}
use Rattle.std.specs.List.{list_any, find as found}
use Rattle.std.specs.Option.{option_map}
use Rattle.std.proofs.Common.{sym, ap, ◌∙◌}
use Rattle.lists.specs.{Lists.{anyb, find}, Options.maybe, Tests.either}
use Rattle.protocol.specs.declared.Entry.{Entry}
use Rattle.words.specs.Rows.{row}
use Rattle.tickets.specs.Table.{entry_of, entries}

module _ (ws ns : List ℕ) (e : ns ≡ row ws) where
  all : map entry_of ns ≡ entries ws
  unfolding entries
  all = ap (map entry_of) e

  -- the words asked are the entries asked
  pub read_any : (p : Entry → Bool) → list_any (λ w. p (entry_of w)) ns ≡ anyb p (entries ws)
  unfolding anyb
  read_any p = go ns ∙ ap (anyb p) all
    where
      go : (l : List ℕ) → list_any (λ w. p (entry_of w)) l ≡ anyb p (map entry_of l)
      go [] = refl
      go (w ∷ l) = ap (p (entry_of w) ||◌) (go l)

  -- the first word that passes is the first entry that does
  pub read_find : (p : Entry → Bool) (o : Option ℕ) (r : Option Entry) → option_map (λ x. x) o ≡ found (λ w. p (entry_of w)) ns → r ≡ option_map entry_of o → maybe r ≡ find p (entries ws)
  unfolding find
  read_find p o r a b = rw (b, sym (same o) ∙ a) (go ns) ∙ ap (find p) all
    where
      same : (o : Option ℕ) → option_map (λ x. x) o ≡ o
      same None = refl
      same (Some x) = refl

      go : (l : List ℕ) → maybe (option_map entry_of (found (λ w. p (entry_of w)) l)) ≡ find p (map entry_of l)
      go [] = refl
      go (w ∷ l) = either (p (entry_of w)) (λ e. rw e) (λ e. rw e (go l))
