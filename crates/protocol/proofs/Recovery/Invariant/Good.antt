-- States that the invariant holds of, and how the memories of a world follow a change of the state.
use Rattle.std.specs.Prelude.{◌≡◌, Bool, true, false, ◌≢◌, ℕ, take}
use Rattle.std.proofs.Math.Path.{refl}
use Rattle.std.proofs.Common.{sym, ap, ◌∙◌, subst}
use mathlib.Core.List.{List, [], ◌∷◌, ◌++◌, append-nil}
use Rattle.std.proofs.Math.Option.{some}
use Rattle.lists.specs.Tests.{either, true_not_false}
use Rattle.lists.specs.Map.{upd, upd_ind, upd_ind₂, upd_other}
use Rattle.lists.specs.Lists.{All, keep, keep_append, remove1, change1}
use Rattle.protocol.specs.Work.{ports}
use Rattle.protocol.specs.declared.Note.{Note}
use Rattle.protocol.specs.declared.Packet.{Packet}
use Rattle.protocol.specs.declared.Status.TheVariants.{Down}
use Rattle.protocol.specs.Parts.{Memory, State, on}
use Rattle.protocol.specs.Setters.{with_table, with_live, with_memory, with_notes, with_wire}
use Rattle.protocol.specs.Restart.{is_ticketed_above}
use Rattle.protocol.specs.CrashFree.{Injection, Work, Run, crash_free}
use Rattle.protocol.specs.History.{History}
use Rattle.protocol.proofs.Recovery.Laws.Restored.{restored_table_same}
use Rattle.protocol.proofs.Recovery.Invariant.World.{Pending, nothing_pending}
use Rattle.protocol.proofs.Recovery.Invariant.Clauses.{Chare, Waiting, InvP}
use Rattle.protocol.proofs.Recovery.Invariant.Linked.{world, Linked}
use Rattle.protocol.proofs.Recovery.Invariant.Silent.{Silent}

-- the invariant holds of s, beside the run x, some memories being those of s
pub record Good (p : Pending) (s : State) (x : Run) (stable : ℕ → ℕ) : Type 0 where
  pub mem : ℕ → Memory
  pub linked : Linked s mem
  pub inv : InvP p (world s x stable mem)
  pub silent : Silent s

-- ---- the history says what the run and the heights say
pub record Told (s : State) (h : History) (x : Run) (stable : ℕ → ℕ) : Type 0 where
  pub sequence : (c : ℕ) → Chare s.job c → s.status (s.job.home c) ≢ Down → h.sequence c ≡ take (s.live c).height (x.worked c)
  pub saved : (c : ℕ) → Chare s.job c → h.saved c ≡ take (stable c) (x.worked c)
  pub nobody : (c : ℕ) → s.job.home c ≡ 0 → (h.sequence c ≡ []) × (x.worked c ≡ [])

-- ---- what is carried along a list of lines
pub record Carried (s : State) (h : History) : Type 0 where
  pub works : List Work
  pub run : Run
  pub stable : ℕ → ℕ
  pub is_run : crash_free (ports s.job) h.injections works ≡ some run
  pub chares : All (λ (i : Injection). i.chare ≢ 0) h.injections
  pub good : Good nothing_pending s run stable
  pub told : Told s h run stable
  pub waiting : Waiting run (s.live 0).log

-- ---- a test does not see a change of what fails it
module _ {A : Type 0} (q : A → Bool) where
  pub keep_change1 : (p : A → Bool) (f : A → A) (l : List A) → ((y : A) → p y ≡ true → (q y ≡ false) × (q (f y) ≡ false)) → keep q (change1 p f l) ≡ keep q l
  unfolding keep change1
  keep_change1 p f [] h = refl
  keep_change1 p f (x ∷ l) h = either (p x)
      (λ e. rw (e, (h x e).0, (h x e).1))
      (λ e. rw (e, keep_change1 p f l h))

  pub keep_remove1 : (p : A → Bool) (l : List A) → ((y : A) → p y ≡ true → q y ≡ false) → keep q (remove1 p l) ≡ keep q l
  unfolding keep remove1
  keep_remove1 p [] h = refl
  keep_remove1 p (x ∷ l) h = either (p x)
      (λ e. rw (e, h x e))
      (λ e. rw (e, keep_remove1 p l h))

  pub keep_snoc : (l : List A) (y : A) → q y ≡ false → keep q (l ++ (y ∷ [])) ≡ keep q l
  unfolding keep
  keep_snoc l y e = keep_append q l (y ∷ []) ∙ rw e (append-nil (keep q l))

  pub keep_within : (p : A → Bool) (l : List A) → ((y : A) → q y ≡ true → p y ≡ true) → keep q (keep p l) ≡ keep q l
  unfolding keep
  keep_within p [] h = refl
  keep_within p (x ∷ l) h = either (p x)
      (λ e. rw (e, keep_within p l h))
      (λ e. rw e (keep_within p l h ∙ either (q x) (λ f. true_not_false (h x f) e) (λ f. rw f)))

-- ---- the memories of a world follow the state
-- what a restored table reads of the logs does not change where a machine is down
abbrev pub SameTickets : State → (ℕ → Memory) → Type 0
SameTickets s live =
    (c a : ℕ) → Chare s.job c → s.status (s.job.home c) ≡ Down → on s.job (s.job.home c) a ≡ false
    → keep (is_ticketed_above c (s.copy c).height) (live a).log ≡ keep (is_ticketed_above c (s.copy c).height) (s.live a).log

module _ {s : State} {mem : ℕ → Memory} (linked : Linked s mem) where
  pub linked_wire : (l : List Packet) → Linked (with_wire s l) mem
  linked_wire l = record {
    up = linked.up;
    down = λ c k d. linked.down c k d ∙ ap (with_table (s.copy c)) (sym (restored_table_same s (with_wire s l) (s.job.home c) c refl refl refl (λ q _ _. refl)));
  }

  -- live memories change, and those of the world with them
  pub linked_live : (live mem' : ℕ → Memory) → ((c : ℕ) → s.status (s.job.home c) ≢ Down → mem' c ≡ live c)
      → ((c : ℕ) → Chare s.job c → s.status (s.job.home c) ≡ Down → mem' c ≡ mem c) → SameTickets s live → Linked (with_live s live) mem'
  linked_live live mem' new old same = record {
    up = new;
    down = λ c k d. old c k d ∙ linked.down c k d
        ∙ ap (with_table (s.copy c)) (sym (restored_table_same s (with_live s live) (s.job.home c) c refl refl refl (λ q _ o. same c q k d o)));
  }

  -- the memory of chare r, on a machine that is up, becomes m
  pub linked_memory : (r : ℕ) → s.status (s.job.home r) ≢ Down → (m m' : Memory) → m' ≡ m
      → ((c : ℕ) → Chare s.job c → s.status (s.job.home c) ≡ Down
      → keep (is_ticketed_above c (s.copy c).height) m.log ≡ keep (is_ticketed_above c (s.copy c).height) (s.live r).log)
      → Linked (with_memory s r m) (upd r m' mem)
  linked_memory r u m m' e same = linked_live (upd r m s.live) (upd r m' mem)
      (λ c v. upd_ind₂ (λ c a b. s.status (s.job.home c) ≢ Down → a ≡ b) r m' m mem s.live (λ _. e) (λ c _ v. linked.up c v) c v)
      (λ c k d. upd_other r m' mem c (λ q. u (subst (λ c. s.status (s.job.home c) ≡ Down) q d)))
      (λ c a k d _. upd_ind (λ a x. keep (is_ticketed_above c (s.copy c).height) x.log ≡ keep (is_ticketed_above c (s.copy c).height) (s.live a).log) r m s.live
      (same c k d) (λ a _. refl) a)

  pub linked_notes : (p : ℕ) → s.status p ≢ Down → (l : List Note) → Linked (with_notes s (upd p l s.notes)) mem
  linked_notes p u l = record {
    up = linked.up;
    down = λ c k d. linked.down c k d
        ∙ ap (with_table (s.copy c)) (sym (restored_table_same s (with_notes s (upd p l s.notes)) (s.job.home c) c refl refl
        (upd_other p l s.notes (s.job.home c) (λ q. u (subst (λ p. s.status p ≡ Down) q d))) (λ q _ _. refl)));
  }
