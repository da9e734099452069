-- The restored table with the messages of the machine's own restored logs filled in.
use Rattle.std.specs.Prelude.{◌≡◌, refl, true, ◌⊎◌, List, [], ◌∷◌, ℕ, ◌<◌, eqb, length}
use Rattle.std.proofs.Common.{ap, sym, subst, ◌∙◌}
use Rattle.std.proofs.Math.Path.{subst₃}
use Rattle.std.proofs.Math.Logic.{inl, inr}
use mathlib.Core.List.Memᴰ
use mathlib.Core.List.Memᴰ.{head as here}
use mathlib.Core.List.Memᴰ.{tail as there}
use borrow.Author.Tests.{eqb-true, ltb-true}
use Rattle.lists.specs.Tests.{either, and_l, and_r}
use Rattle.lists.specs.Lists.{◌∈◌, keep, keep_mem, gather, gather_mem}
use Rattle.lists.specs.Keys.{NoDup}
use Rattle.protocol.specs.declared.Logged.{Logged}
use Rattle.protocol.specs.declared.Entry.{Entry}
use Rattle.protocol.specs.Parts.{State, on, every_chare}
use Rattle.protocol.specs.Tickets.{for_message, fill, filled}
use Rattle.protocol.specs.Restart.{is_ticketed_above, local_log, restored_table, fill_all, filled_table}
use Rattle.protocol.proofs.Recovery.Laws.Changes.{Key, mem_change1_either}
use Rattle.protocol.proofs.Recovery.Laws.Lookups.{filled_old, nodup_filled, length_filled, entry_key}
use Rattle.protocol.proofs.Recovery.Laws.Restored.{Source, restored_table_mem, nodup_restored_table}

-- y is e, but for what a fill changes
pub record SameTicket (e y : Entry) : Type 0 where
  pub same_sender : y.sender ≡ e.sender
  pub same_sn : y.sn ≡ e.sn
  pub same_tn : y.tn ≡ e.tn
  pub same_noted : y.noted ≡ e.noted

pub same_refl : (e : Entry) → SameTicket e e
same_refl e = record { same_sender = refl; same_sn = refl; same_tn = refl; same_noted = refl }

pub same_trans : {a b c : Entry} → SameTicket a b → SameTicket b c → SameTicket a c
same_trans p q = record {
  same_sender = q.same_sender ∙ p.same_sender;
  same_sn = q.same_sn ∙ p.same_sn;
  same_tn = q.same_tn ∙ p.same_tn;
  same_noted = q.same_noted ∙ p.same_noted;
}

pub same_fill : (value hops : ℕ) (e : Entry) → SameTicket e (fill value hops e)
unfolding fill
same_fill value hops e = record { same_sender = refl; same_sn = refl; same_tn = refl; same_noted = refl }

-- y is received with the body of a logged message of its sender and SN, one of those that P holds of
pub record FilledBy (P : Logged → Type 0) (y : Entry) : Type 0 where
  pub logged : Logged
  pub given : P logged
  pub of_sender : logged.message.sender ≡ y.sender
  pub of_sn : logged.message.sn ≡ y.sn
  pub is_received : y.received ≡ true
  pub same_value : y.value ≡ logged.message.value
  pub same_hops : y.hops ≡ logged.message.hops

-- y stands for an entry of l, as it was or filled
pub record FilledFrom (l : List Entry) (P : Logged → Type 0) (y : Entry) : Type 0 where
  pub before : Entry
  pub member : before ∈ l
  pub same : SameTicket before y
  pub how : (y ≡ before) ⊎ FilledBy P y

filled_by_weaken : {P Q : Logged → Type 0} {y : Entry} → ((x : Logged) → P x → Q x) → FilledBy P y → FilledBy Q y
filled_by_weaken f h = record {
  logged = h.logged;
  given = f _ h.given;
  of_sender = h.of_sender;
  of_sn = h.of_sn;
  is_received = h.is_received;
  same_value = h.same_value;
  same_hops = h.same_hops;
}

-- ---- filling some messages, one after the other
fill_by : {P : Logged → Type 0} (x : Logged) (e : Entry) → P x → entry_key e ≡ (x.message.sender, x.message.sn)
    → FilledBy P (fill x.message.value x.message.hops e)
unfolding fill
fill_by x e h k = record {
  logged = x;
  given = h;
  of_sender = sym (ap (λ (z : Key). z.0) k);
  of_sn = sym (ap (λ (z : Key). z.1) k);
  is_received = refl;
  same_value = refl;
  same_hops = refl;
}

filled_from : {l : List Entry} {P : Logged → Type 0} {y : Entry} (x : Logged) → P x
    → y ∈ filled x.message.sender x.message.sn x.message.value x.message.hops l → FilledFrom l P y
filled_from {l} {P} {y} x h i = elim (filled_old _ _ _ _ l i) [
  | inl j ↦ record { before = y; member = j; same = same_refl y; how = inl refl }
  | inr (e, j, k, q) ↦ subst (FilledFrom l P) (sym q) (record { before = e; member = j; same = same_fill _ _ e; how = inr (fill_by x e h k) })
]

pub fill_all_mem : (l : List Entry) (xs : List Logged) {y : Entry} → y ∈ fill_all l xs → FilledFrom l (◌∈ xs) y
unfolding fill_all
fill_all_mem l [] {y} i = record { before = y; member = i; same = same_refl y; how = inl refl }
fill_all_mem l (x ∷ xs) {y} i =
    let r = fill_all_mem (filled x.message.sender x.message.sn x.message.value x.message.hops l) xs i in
    let f = filled_from {P = ◌∈ (x ∷ xs)} x (here refl) r.member in
    record {
      before = f.before;
      member = f.member;
      same = same_trans f.same r.same;
      how = elim r.how [
        | inl q ↦ elim f.how [ inl p ↦ inl (q ∙ p) | inr b ↦ inr (subst (FilledBy (◌∈ (x ∷ xs))) (sym q) b) ]
        | inr b ↦ inr (filled_by_weaken (λ z j. there j) b)
      ];
    }

pub mem_fill_all : {l : List Entry} {e : Entry} (xs : List Logged) → e ∈ l → (y : Entry) × (y ∈ fill_all l xs) × SameTicket e y
unfolding fill_all filled
mem_fill_all {e = e} [] i = (e, i, same_refl e)
mem_fill_all {l = l} {e = e} (x ∷ xs) i =
    elim (mem_change1_either (for_message x.message.sender x.message.sn) (fill x.message.value x.message.hops) i) [
      | inl j ↦ mem_fill_all {l = filled x.message.sender x.message.sn x.message.value x.message.hops l} xs j
      | inr j ↦ let (y, k, q) = mem_fill_all {l = filled x.message.sender x.message.sn x.message.value x.message.hops l} xs j in (y, k, same_trans (same_fill _ _ e) q)
    ]

pub nodup_fill_all : (l : List Entry) (xs : List Logged) → NoDup entry_key l → NoDup entry_key (fill_all l xs)
unfolding fill_all
nodup_fill_all l [] h = h
nodup_fill_all l (x ∷ xs) h = nodup_fill_all (filled x.message.sender x.message.sn x.message.value x.message.hops l) xs (nodup_filled _ _ _ _ l h)

pub length_fill_all : (l : List Entry) (xs : List Logged) → length (fill_all l xs) ≡ length l
unfolding fill_all
length_fill_all l [] = refl
length_fill_all l (x ∷ xs) = length_fill_all (filled x.message.sender x.message.sn x.message.value x.message.hops l) xs ∙ length_filled x.message.sender x.message.sn x.message.value x.message.hops l

-- ---- the filled table
-- a message to c in the restored log of a chare of p, with a TN above the restored height
pub record LoggedHere (s : State) (p c : ℕ) (x : Logged) : Type 0 where
  pub place : ℕ
  pub known : place ∈ every_chare
  pub here : on s.job p place ≡ true
  pub member : x ∈ (s.copy place).log
  pub of_receiver : x.message.receiver ≡ c
  pub above : (s.copy c).height < x.tn

local_log_mem : (s : State) (p q : ℕ) {x : Logged} → x ∈ local_log s p q → (on s.job p q ≡ true) × (x ∈ (s.copy q).log)
unfolding local_log
local_log_mem s p q i = either (on s.job p q) (λ e. (e, rw e at i)) (λ e. absurd (Memᴰ.not-nil (rw e at i)))

module _ (s : State) (p c : ℕ) where
  logged_here : (x : Logged) → x ∈ keep (is_ticketed_above c (s.copy c).height) (gather (local_log s p) every_chare) → LoggedHere s p c x
  unfolding is_ticketed_above
  logged_here x i =
      let (j, b) = keep_mem _ _ i in
      let (k, m, l) = gather_mem (local_log s p) every_chare j in
      let o = local_log_mem s p k l in
      record {
        place = k;
        known = m;
        here = o.0;
        member = o.1;
        of_receiver = eqb-true _ _ (and_l _ _ b);
        above = ltb-true _ _ (and_r (eqb x.message.receiver c) _ b);
      }

  pub filled_table_mem : {y : Entry} → y ∈ filled_table s p c → FilledFrom (restored_table s p c) (LoggedHere s p c) y
  unfolding filled_table
  filled_table_mem i =
      let r = fill_all_mem (restored_table s p c) _ i in
      record {
        before = r.before;
        member = r.member;
        same = r.same;
        how = elim r.how [ inl q ↦ inl q | inr b ↦ inr (filled_by_weaken logged_here b) ];
      }

  pub mem_filled_table : {e : Entry} → e ∈ restored_table s p c → (y : Entry) × (y ∈ filled_table s p c) × SameTicket e y
  unfolding filled_table
  mem_filled_table i = mem_fill_all _ i

  pub nodup_filled_table : NoDup entry_key (filled_table s p c)
  unfolding filled_table
  nodup_filled_table = nodup_fill_all (restored_table s p c) _ (nodup_restored_table s p c)

  pub length_filled_table : length (filled_table s p c) ≡ length (restored_table s p c)
  unfolding filled_table
  length_filled_table = length_fill_all (restored_table s p c) _

  -- every entry has a source and is noted, and one that is received was filled
  pub filled_table_source : {y : Entry} → y ∈ filled_table s p c → Source s p c y.sender y.sn y.tn
  filled_table_source i =
      let r = filled_table_mem i in
      let same = r.same in
      subst₃ (Source s p c) (sym same.same_sender) (sym same.same_sn) (sym same.same_tn) (restored_table_mem s p c r.member).source
