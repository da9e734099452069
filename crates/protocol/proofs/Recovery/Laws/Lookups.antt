-- Looking up by key, and changing what has a key: tables by sender and SN, logs by receiver and SN.
use Rattle.std.specs.Prelude.{◌≡◌, refl, ◌≢◌, ◌⊎◌, List, ℕ, ◌+◌, eqb, length}
use Rattle.std.proofs.Common.{ap, arith, eqb-true}
use Rattle.std.proofs.Math.Option.{Option, some, none}
use Rattle.lists.specs.Tests.{either}
use Rattle.lists.specs.Lists.{◌∈◌, find, find_some, find_none, remove1, length_change1}
use Rattle.lists.specs.Keys.{NoDup, nodup_remove1, nodup_change1}
use Rattle.protocol.specs.declared.Message.{Message}
use Rattle.protocol.specs.declared.Logged.{Logged}
use Rattle.protocol.specs.declared.Entry.{Entry}
use Rattle.protocol.specs.declared.Lookup.TheVariants.{Unticketed}
use Rattle.protocol.specs.Parts.{Memory}
use Rattle.protocol.specs.Tickets.{for_message, entry, has_tn, fill, filled}
use Rattle.protocol.specs.Working.{next_entry}
use Rattle.protocol.specs.Packets.{for_receiver, looked_up, lookup, set_tn, ticketed}
use Rattle.protocol.proofs.Recovery.Laws.Changes.{Key, Tests, pair_true, true_pair, no_key, change_old, change_other, mem_change, mem_remove, remove_key}

abbrev pub entry_key : Entry → Key
entry_key e = (e.sender, e.sn)

abbrev pub logged_key : Logged → Key
logged_key x = (x.message.receiver, x.message.sn)

pub tests_entry : (s n : ℕ) → Tests entry_key (s, n) (for_message s n)
unfolding for_message
tests_entry s n = record { yes_key = λ x. pair_true x.sender x.sn s n; key_yes = λ x. true_pair x.sender x.sn s n }

pub tests_logged : (r n : ℕ) → Tests logged_key (r, n) (for_receiver r n)
unfolding for_receiver
tests_logged r n = record {
  yes_key = λ x. pair_true x.message.receiver x.message.sn r n;
  key_yes = λ x. true_pair x.message.receiver x.message.sn r n;
}

-- ---- looking up in a table
pub entry_some : (l : List Entry) (s n : ℕ) {e : Entry} → entry l s n ≡ some e → (e ∈ l) × (e.sender ≡ s) × (e.sn ≡ n)
unfolding entry
entry_some l s n {e} q =
    let r = find_some (for_message s n) l q in
    let k = (tests_entry s n).yes_key e r.1 in
    (r.0, ap (λ (k : Key). k.0) k, ap (λ (k : Key). k.1) k)

pub entry_none : (l : List Entry) (s n : ℕ) → entry l s n ≡ none → (e : Entry) → e ∈ l → entry_key e ≢ (s, n)
unfolding entry
entry_none l s n q e i = no_key (tests_entry s n) e (find_none (for_message s n) l q e i)

pub next_entry_some : (m : Memory) {e : Entry} → next_entry m ≡ some e → (e ∈ m.table) × (e.tn ≡ m.height + 1)
unfolding next_entry has_tn
next_entry_some m q = let r = find_some (has_tn (m.height + 1)) m.table q in (r.0, eqb-true _ _ r.1)

-- ---- looking up in a log
-- the log has the message m under r and n, without a TN
pub record Waits (l : List Logged) (r n : ℕ) (m : Message) : Type 0 where
  pub logged : Logged
  pub member : logged ∈ l
  pub equal : logged.message ≡ m
  pub no_tn : logged.tn ≡ 0
  pub of_key : logged_key logged ≡ (r, n)
  pub found : find (for_receiver r n) l ≡ some logged

pub lookup_unticketed : (l : List Logged) (r n : ℕ) {m : Message} → lookup l r n ≡ Unticketed m → Waits l r n m
unfolding lookup looked_up
lookup_unticketed l r n {m} = go (find (for_receiver r n) l) refl
  where
    go : (o : Option Logged) → find (for_receiver r n) l ≡ o → looked_up o ≡ Unticketed m → Waits l r n m
    go none q e = absurd (let z : ◌≡◌ {A = ℕ} 0 1 = cc in omega arith)
    go (some x) q e = either (eqb x.tn 0)
        (λ f.
        let i = find_some (for_receiver r n) l q in
        let g = rw f at e in
        record {
          logged = x;
          member = i.0;
          equal = cc;
          no_tn = eqb-true _ _ f;
          of_key = (tests_logged r n).yes_key x i.1;
          found = q;
        })
        (λ f. absurd (let g = rw f at e in let z : ◌≡◌ {A = ℕ} 0 1 = cc in omega arith))

-- ---- a table with the entry of sender s and SN n filled
module _ (s n value hops : ℕ) where
  pub filled_old : {y : Entry} (l : List Entry) → y ∈ filled s n value hops l → (y ∈ l) ⊎ ((x : Entry) × (x ∈ l) × (entry_key x ≡ (s, n)) × (y ≡ fill value hops x))
  unfolding filled
  filled_old = change_old (tests_entry s n) (fill value hops)

  pub nodup_filled : (l : List Entry) → NoDup entry_key l → NoDup entry_key (filled s n value hops l)
  unfolding filled fill
  nodup_filled l = nodup_change1 entry_key (for_message s n) (fill value hops) l (λ x. refl)

  pub length_filled : (l : List Entry) → length (filled s n value hops l) ≡ length l
  unfolding filled
  length_filled l = length_change1 (for_message s n) (fill value hops) l

-- ---- with it noted
-- ---- a log with the TN of the message to r with SN n set to t
module _ (r n t : ℕ) where
  pub ticketed_old : {y : Logged} (l : List Logged) → y ∈ ticketed r n t l → (y ∈ l) ⊎ ((x : Logged) × (x ∈ l) × (logged_key x ≡ (r, n)) × (y ≡ set_tn t x))
  unfolding ticketed
  ticketed_old = change_old (tests_logged r n) (set_tn t)

  pub mem_ticketed : {x : Logged} {l : List Logged} → NoDup logged_key l → x ∈ l → logged_key x ≡ (r, n) → set_tn t x ∈ ticketed r n t l
  unfolding ticketed
  mem_ticketed = mem_change (tests_logged r n) (set_tn t)

  pub ticketed_other : {x : Logged} {l : List Logged} → x ∈ l → logged_key x ≢ (r, n) → x ∈ ticketed r n t l
  unfolding ticketed
  ticketed_other = change_other (tests_logged r n) (set_tn t)

  pub nodup_ticketed : (l : List Logged) → NoDup logged_key l → NoDup logged_key (ticketed r n t l)
  unfolding ticketed set_tn
  nodup_ticketed l = nodup_change1 logged_key (for_receiver r n) (set_tn t) l (λ x. refl)

-- ---- a log without the message to r with SN n
module _ (r n : ℕ) where
  pub mem_removed : {x : Logged} {l : List Logged} → x ∈ l → logged_key x ≢ (r, n) → x ∈ remove1 (for_receiver r n) l
  mem_removed = mem_remove (tests_logged r n)

  pub removed_key : {x : Logged} (l : List Logged) → NoDup logged_key l → x ∈ remove1 (for_receiver r n) l → logged_key x ≢ (r, n)
  removed_key = remove_key (tests_logged r n)

  pub nodup_removed : (l : List Logged) → NoDup logged_key l → NoDup logged_key (remove1 (for_receiver r n) l)
  nodup_removed l = nodup_remove1 logged_key (for_receiver r n) l
