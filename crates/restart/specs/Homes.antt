-- The chares of p take what they get back; the others stay. Their tables stand in rows, one a chare.
use Rattle.std.specs.Prelude.{◌≡◌, refl, Bool, true, false, not, ◌||◌, List, [], ℕ, ◌+◌, ◌-◌, ◌<◌, ◌≤◌, leb, length, get_or, set}
use Rattle.std.proofs.Common.{◌∙◌, below_more, arith, get_or-set_same, get_or-set_other}
use Rattle.std.proofs.Math.Path.{fun_ext}
use Rattle.lists.specs.{Tests.{either, true_not_false}, Lists.allb}
use Rattle.protocol.specs.{declared.Entry.Entry, Parts.{State, Memory, on, at_home, every_chare}, Setters.{with_live, with_status}, Restart.{filled_table, target_of}}
use Rattle.protocol.specs.Questions.{tables_fit}
use Rattle.lists.specs.Counting.{counting}
use Rattle.arrays.specs.Loops.{each, each_hit, each_miss, each_end, allb_keep}
use Rattle.tickets.specs.Table.{entries}
use Rattle.store.specs.{View.view, Visits.{chosen, visited, visit_none, visit_hit, visit_miss, visit_all}}
use Rattle.restart.specs.{Limited.{held, limit, held_same}, Restored.{renewed, come_back}}

-- the table in row c
unfoldable pub table_in : List (List ℕ) → ℕ → List Entry
table_in rows c = entries (get_or rows c [])

-- ---- the tables built
pub record AllTables (s : State) (p : ℕ) (rows : List (List ℕ)) (r : Bool) : Type 0 where
  pub fits : r ≡ tables_fit s p
  pub table : r ≡ true → (c : ℕ) → 1 ≤ c → c < 13 → on s.job p c ≡ true → table_in rows c ≡ filled_table s p c

-- there is room for what chare c gets back, if it is on p
unfoldable pub passes : State → ℕ → ℕ → Bool
passes s p c = not (on s.job p c) || leb (length (filled_table s p c)) 16

-- the loop has passed the chares below c
pub record Going (s : State) (p c : ℕ) (rows : List (List ℕ)) : Type 0 where
  pub fits : tables_fit s p ≡ each (passes s p) (13 - c) c
  pub table : (i : ℕ) → i < c → 1 ≤ i → on s.job p i ≡ true → table_in rows i ≡ filled_table s p i

pub going_start : (s : State) (p : ℕ) (rows : List (List ℕ)) → Going s p 1 rows
unfolding tables_fit passes every_chare allb counting
going_start s p rows = record { fits = allb_keep _ (on s.job p) every_chare; table = λ i b a. absurd (omega arith) }

module _ (s : State) (p c : ℕ) (rows : List (List ℕ)) (g : Going s p c rows) where
  pub going_end : 13 ≤ c → AllTables s p rows true
  going_end h = record { fits = each_end (passes s p) 13 c (tables_fit s p) g.fits h; table = λ _ i a b. g.table i (omega arith) a }

  module _ (h : c < 13) where
    pub going_skip : on s.job p c ≡ false → Going s p (c + 1) rows
    unfolding passes
    going_skip e = record { fits = each_hit (passes s p) 13 c (tables_fit s p) g.fits h (rw e); table = below_more _ c g.table (λ a o. true_not_false o e) }

    -- the row of c, built
    module _ (e : on s.job p c ≡ true) (ys : List ℕ) where
      same : (r : Bool) → held r (entries ys) ≡ limit 16 (filled_table s p c) → (r ≡ leb (length (filled_table s p c)) 16) × (r ≡ true → entries ys ≡ filled_table s p c)
      unfolding limit
      same r built = held_same r _ (entries ys) _ built

      pub going_stop : held false (entries ys) ≡ limit 16 (filled_table s p c) → (out : List (List ℕ)) → AllTables s p out false
      unfolding passes
      going_stop built out = record { fits = each_miss (passes s p) 13 c (tables_fit s p) g.fits h (rw (e, ← (same false built).0)); table = λ q. true_not_false q refl }

      pub going_more : held true (entries ys) ≡ limit 16 (filled_table s p c) → length rows ≡ 13 → Going s p (c + 1) (set rows c ys)
      unfolding passes table_in
      going_more built size = record {
        fits = each_hit (passes s p) 13 c (tables_fit s p) g.fits h (rw (e, ← (same true built).0));
        table = below_more _ c
            (λ i l a o. rw (get_or-set_other rows c i ys [] (λ q. omega arith)) (g.table i l a o))
            (λ a o. rw (get_or-set_same rows c ys [] (omega arith)) ((same true built).1 refl));
      }

-- ---- all chares of p come back
unfoldable pub new_memory : State → List (List ℕ) → ℕ → Memory
new_memory s rows c = renewed (s.copy c) (table_in rows c)

module _ (s : State) (p : ℕ) (rows : List (List ℕ)) where
  abbrev targets : ℕ → ℕ
  targets = at_home s.job p (λ c t. target_of (new_memory s rows c)) s.target

  abbrev memories : ℕ → Memory
  memories = at_home s.job p (λ c m. new_memory s rows c) s.live

  unfoldable pub all_back : State
  all_back = with_live (with_status s s.status targets) memories

  -- a loop has passed k
  unfoldable pub backs : ℕ → State
  backs k = with_live (with_status s s.status (visited (on s.job p) targets s.target k)) (visited (on s.job p) memories s.live k)

  pub backs_start : s ≡ backs 0
  unfolding backs
  backs_start = λ i. with_live (with_status s s.status (visit_none (on s.job p) targets s.target i)) (visit_none (on s.job p) memories s.live i)

  module _ (xs : List ℕ) (k : ℕ) (inv : view xs ≡ backs k) where
    pub backs_more : on (view xs).job p k ≡ true → (out : List ℕ) → view out ≡ come_back (view xs) k (table_in rows k) → view out ≡ backs (k + 1)
    unfolding backs come_back new_memory at_home
    backs_more e out q =
        let here : on s.job p k ≡ true = rw inv at e in
        q ∙ rw (
          inv,
          visit_hit (on s.job p) targets s.target k here (target_of (new_memory s rows k)) (rw here),
          visit_hit (on s.job p) memories s.live k here (new_memory s rows k) (rw here),
        )

    pub backs_skip : on (view xs).job p k ≡ false → view xs ≡ backs (k + 1)
    unfolding backs
    backs_skip e =
        let there : on s.job p k ≡ false = rw inv at e in
        inv ∙ rw (visit_miss (on s.job p) targets s.target k there, visit_miss (on s.job p) memories s.live k there)

  module _ (k : ℕ) (h : 13 ≤ k) (last : (i : ℕ) → on s.job p i ≡ true → i < 13) where
    all_passed : {A : Type 0} (f : ℕ → A → A) (g : ℕ → A) → visited (on s.job p) (at_home s.job p f g) g k ≡ at_home s.job p f g
    unfolding chosen at_home
    all_passed f g =
        visit_all (on s.job p) (at_home s.job p f g) g k 13 h (λ i q. either (on s.job p i) (λ e. absurd (omega (arith, last i e))) (λ e. rw e))
        ∙ fun_ext (λ i. either (on s.job p i) (λ e. rw e) (λ e. rw e))

    pub backs_all : backs k ≡ all_back
    unfolding backs all_back
    backs_all = rw (all_passed _ s.target, all_passed _ s.live)
