-- The table that a checkpoint leaves: the entries above the height, all noted.
use Rattle.std.specs.Prelude.{◌≡◌, refl, List, [], ◌∷◌, map, ℕ, ◌≤◌, ◌<◌}
use Rattle.std.proofs.Common.{sym, ap, ◌∙◌, subst, arith, ltb-true, lt-ltb}
use Rattle.lists.specs.Lists.{◌∈◌, All, keep, keep_mem, mem_keep, map_mem, mem_map}
use Rattle.lists.specs.Keys.{NoDup, nodup_keep}
use Rattle.protocol.specs.declared.Entry.{Entry}
use Rattle.protocol.specs.Tickets.{mark_noted}
use Rattle.protocol.specs.Checkpoint.{above_height}
use Rattle.protocol.specs.CrashFree.{Run}
use Rattle.protocol.specs.History.{message_of}
use Rattle.protocol.proofs.Recovery.Invariant.World.{HasEntry}
use Rattle.protocol.proofs.Recovery.Invariant.Clauses.{Table}
use Rattle.protocol.proofs.Recovery.Laws.Lookups.{entry_key}

-- a map that leaves the keys
pub nodup_map : {A B K : Type 0} (k : B → K) (k' : A → K) (f : A → B) → ((a : A) → k (f a) ≡ k' a) → (l : List A) → NoDup k' l → NoDup k (map f l)
unfolding NoDup
nodup_map k k' f same [] h = tt
nodup_map k k' f same (x ∷ l) h =
    ((λ y i e. let (a, m, q) = mem_map f l i in h.0 a m (sym (same a) ∙ ap k q ∙ e ∙ same x)), nodup_map k k' f same l h.1)

-- ---- the table
unfoldable pub pruned_table : ℕ → List Entry → List Entry
pruned_table h l = map mark_noted (keep (above_height h) l)

pub all_pruned : (P : Entry → Type 0) (h : ℕ) (l : List Entry) → All (λ e. h < e.tn → P (mark_noted e)) l → All P (pruned_table h l)
unfolding pruned_table above_height
all_pruned P h l p y i =
    let (e, m, q) = mem_map mark_noted (keep (above_height h) l) i in
    let (a, b) = keep_mem (above_height h) l m in
    subst P q (p e a (ltb-true h e.tn b))

pub mem_pruned : (h : ℕ) {e : Entry} {l : List Entry} → e ∈ l → h < e.tn → mark_noted e ∈ pruned_table h l
unfolding pruned_table above_height
mem_pruned h {e} i k = map_mem mark_noted (mem_keep (above_height h) i (lt-ltb h e.tn k))

pub entered_pruned : (h : ℕ) {l : List Entry} {s n t : ℕ} → HasEntry l s n t → h < t → HasEntry (pruned_table h l) s n t
unfolding mark_noted
entered_pruned h p k =
    let e = p.of_tn in
    record { entry = mark_noted p.entry; member = mem_pruned h p.member (omega arith); of_sender = p.of_sender; of_sn = p.of_sn; of_tn = p.of_tn }

pub table_pruned : {x : Run} {c h k : ℕ} {l : List Entry} → Table x c h l → h ≤ k → Table x c k (pruned_table k l)
unfolding mark_noted pruned_table message_of
table_pruned {x} {c} {h} {k} {l} table up = record {
  complete = λ t a b.
      let (e, i, q) = table.complete t (omega arith) b in
      (mark_noted e, mem_pruned k i (omega arith), q);
  positive = all_pruned _ k l (λ e i _. table.positive e i);
  tns = nodup_map _ _ mark_noted (λ e. refl) (keep (above_height k) l) (nodup_keep _ (above_height k) l table.tns);
  keys = nodup_map entry_key entry_key mark_noted (λ e. refl) (keep (above_height k) l) (nodup_keep entry_key (above_height k) l table.keys);
  sent = all_pruned _ k l (λ e i _. table.sent e i);
  past = all_pruned _ k l (λ e i _. table.past e i);
  fresh = all_pruned _ k l (λ e i _. table.fresh e i);
  reach = all_pruned _ k l (λ e i _. table.reach e i);
  body = all_pruned _ k l (λ e i _. table.body e i);
}
