-- Sending keeps the invariant: one pending message less.
use Rattle.std.specs.Prelude.{◌≡◌, true, false, ◌≢◌, List, [], ◌∷◌, ◌++◌, ℕ, ◌+◌, ◌≤◌, ◌<◌, eqb}
use Rattle.std.proofs.Math.Path.{refl, ap, subst}
use Rattle.std.proofs.Common.{sym, ◌∙◌, inl, arith}
use Rattle.std.proofs.Math.Logic.{inr}
use mathlib.Core.List.Memᴰ
use mathlib.Core.List.Memᴰ.{head as here}
use mathlib.Core.List.Memᴰ.{tail as there}
use Rattle.std.proofs.Math.Option.{some, none}
use borrow.Author.Tests.{eqb-true, le-ltb, eq-eqb}
use Rattle.lists.specs.Tests.{either, true_not_false, eq?}
use Rattle.lists.specs.Map.{upd, upd_same, upd_other, upd_upd, upd_comm, upd_ind}
use Rattle.lists.specs.Lists.{◌∈◌, All, find, change1}
use Rattle.protocol.specs.declared.Message.{Message}
use Rattle.protocol.specs.declared.Entry.{Entry}
use Rattle.protocol.specs.declared.Status.TheVariants.{Down}
use Rattle.protocol.specs.Parts.{Memory, State}
use Rattle.protocol.specs.Setters.{with_table, with_log, with_sn, with_live}
use Rattle.protocol.specs.Window.{admitted, width}
use Rattle.protocol.specs.Tickets.{entry, for_message, new_tn, fill, filled}
use Rattle.protocol.specs.Sending.{is_local, about, next_message, log_message, send_remote, local_entry, send_local}
use Rattle.protocol.specs.Packets.{new_table, seen}
use Rattle.protocol.specs.Restart.{is_ticketed_above}
use Rattle.protocol.specs.CrashFree.{Run}
use Rattle.protocol.proofs.Recovery.Run.Facts.{Sent, RunOk}
use Rattle.protocol.proofs.Recovery.Laws.Look.{admitted_near}
use Rattle.protocol.proofs.Recovery.Laws.NewTicket.{new_tn_above, new_tn_free}
use Rattle.protocol.proofs.Recovery.Laws.Changes.{key_no}
use Rattle.protocol.proofs.Recovery.Laws.Lookups.{entry_some, entry_none, tests_entry, entry_key}
use Rattle.protocol.proofs.Recovery.Invariant.World.{Tick, SentKey}
use Rattle.protocol.proofs.Recovery.Invariant.Clauses.{Chare, InvP}
use Rattle.protocol.proofs.Recovery.Invariant.Good.{Good, linked_memory, keep_snoc}
use Rattle.protocol.proofs.Recovery.Invariant.Silent.{silent_memory}
use Rattle.protocol.proofs.Recovery.Steps.Retable.{put_table}
use Rattle.protocol.proofs.Recovery.Steps.Table.{NewEntry, table_add, table_fill}
use Rattle.protocol.proofs.Recovery.Steps.Log.{to_send, next_of, owed_next, log_append}
use Rattle.protocol.proofs.Recovery.Frames.States.{world_now, good_put, live, good_table}
use Rattle.protocol.proofs.Recovery.Invariant.Homes.{local_home}

-- ---- two changes of a map, one a table's and one a log's, in either order
swap : {A : Type 0} (F G : A → A) → ((z : A) → F (G z) ≡ G (F z)) → (a r : ℕ) (f : ℕ → A)
    → upd a (F (upd r (G (f r)) f a)) (upd r (G (f r)) f) ≡ upd r (G (upd a (F (f a)) f r)) (upd a (F (f a)) f)
swap F G same a r f = elim (eq? a r) [
  | inl e ↦ subst (λ r. upd a (F (upd r (G (f r)) f a)) (upd r (G (f r)) f) ≡ upd r (G (upd a (F (f a)) f r)) (upd a (F (f a)) f)) e
      (rw (upd_same a (G (f a)) f, upd_same a (F (f a)) f, upd_upd, upd_upd, same))
  | inr d ↦ rw (upd_other r (G (f r)) f a d, upd_other a (F (f a)) f r (λ e. d (sym e))) (upd_comm a r (F (f a)) (G (f r)) f d)
]

-- a memory with message m logged under TN t
abbrev logs : Message → ℕ → Memory → Memory
logs m t k = with_log (with_sn k (upd m.receiver m.sn k.sn)) (k.log ++ (record { message = m; tn = t } ∷ []))

table_log : (s : State) (r : ℕ) (T : List Entry) (m : Message) (t : ℕ) → log_message (new_table s r T) m t ≡ new_table (log_message s m t) r T
unfolding log_message new_table
table_log s r T m t = ap (with_live s) (swap (logs m t) (λ k. with_table k T) (λ z. refl) m.sender r s.live)

table_table : (s : State) (r : ℕ) (T U : List Entry) → new_table (new_table s r T) r U ≡ new_table s r U
unfolding new_table
table_table s r T U = ap (with_live s) (rw (upd_same r (with_table (s.live r) T) s.live) (upd_upd r (with_table (s.live r) U) (with_table (s.live r) T) s.live))

table_is : (s : State) (r : ℕ) (T : List Entry) → ((new_table s r T).live r).table ≡ T
unfolding new_table
table_is s r T = ap (λ k. k.table) (upd_same r (with_table (s.live r) T) s.live)

-- logging leaves the tables
log_keeps : (s : State) (m : Message) (t c : ℕ) → ((log_message s m t).live c).table ≡ (s.live c).table
unfolding log_message
log_keeps s m t c = upd_ind (λ c (k : Memory). k.table ≡ (s.live c).table) m.sender (logs m t (s.live m.sender)) s.live refl (λ c _. refl) c

-- what a table's change leaves
table_keeps : {X : Type 0} (f : Memory → X) → ((k : Memory) (l : List Entry) → f (with_table k l) ≡ f k) → (s : State) (r : ℕ) (T : List Entry) (c : ℕ) → f ((new_table s r T).live c) ≡ f (s.live c)
unfolding new_table
table_keeps f same s r T c = upd_ind (λ c k. f k ≡ f (s.live c)) r (with_table (s.live r) T) s.live (same (s.live r) T) (λ c _. refl) c

-- ---- the message is logged
module _ {s : State} {x : Run} {stable : ℕ → ℕ} (ok : RunOk s.job x) (a r : ℕ) (l : List ℕ) (v h : ℕ) (g : Good (to_send a (r ∷ l) v h) s x stable)
    (u : s.status (s.job.home a) ≢ Down) where
  abbrev message : Message
  message = next_message s a r v h

  from : g.mem a ≡ s.live a
  from = live g a u

  same_next : next_of (world_now g) a r v h ≡ message
  unfolding next_message
  same_next = ap (λ k. record { sender = a; receiver = r; sn = k.sn r + 1; value = v; hops = h }) from

  pub sent_next : Sent x message
  sent_next = subst (Sent x) same_next (owed_next x a r l v h (g.mem a).sn g.inv.images.owed).0

  pub next_key : SentKey x a r ((s.live a).sn r + 1)
  unfolding next_message
  next_key = record { message = message; sent = sent_next; of_sender = refl; of_receiver = refl; of_sn = refl }

  pub next_chare : Chare s.job r
  next_chare = g.inv.images.owed_to r (here refl)

  good_logged : (t : ℕ) → (t ≢ 0 → Tick x g.mem r a ((s.live a).sn r + 1) t) → (is_local s.job a r ≡ true → t ≢ 0)
      → ((c : ℕ) → Chare s.job c → s.status (s.job.home c) ≡ Down → is_ticketed_above c (s.copy c).height (record { message = message; tn = t }) ≡ false)
      → Good (to_send a l v h) (log_message s message t) x stable
  unfolding log_message next_message
  good_logged t tick local unseen = record {
    mem = upd a (logs (next_of (world_now g) a r v h) t (g.mem a)) g.mem;
    linked = linked_memory g.linked a u (logs message t (s.live a)) (logs (next_of (world_now g) a r v h) t (g.mem a))
        (ap (λ k. logs (record { sender = a; receiver = r; sn = k.sn r + 1; value = v; hops = h }) t k) from)
        (λ c k d. keep_snoc _ (s.live a).log _ (unseen c k d));
    inv = log_append a r l v h ok g.inv t (λ z. subst (λ k. Tick x g.mem r a (k.sn r + 1) t) (sym from) (tick z)) local;
    silent = silent_memory s g.silent a (logs message t (s.live a)) (inl g.inv.images.owing);
  }

  -- a message without TN is none that a restart would read
  unticketed : (c k : ℕ) → is_ticketed_above c k (record { message = message; tn = 0 }) ≡ false
  unfolding is_ticketed_above next_message
  unticketed c k = either (eqb r c) (λ e. rw (e, le-ltb k 0 (omega arith))) (λ e. rw e)

  -- nor is one to a chare of a machine that is up
  not_there : s.status (s.job.home r) ≢ Down → (t c k : ℕ) → s.status (s.job.home c) ≡ Down → is_ticketed_above c k (record { message = message; tn = t }) ≡ false
  unfolding is_ticketed_above next_message
  not_there v t c k d = either (eqb r c) (λ e. absurd (v (subst (λ c. s.status (s.job.home c) ≡ Down) (sym (eqb-true r c e)) d))) (λ e. rw e)

  -- ---- to another machine
  pub keep_remote : is_local s.job a r ≡ false → Good (to_send a l v h) (send_remote s message) x stable
  unfolding send_remote about next_message log_message good_logged
  keep_remote f = good_put (good_logged 0 (λ z. absurd (z refl)) (λ e. true_not_false e f) (λ c _ _. unticketed c _)) _
      (record { key = next_key; fits = f })

  -- ---- to the same machine
  module _ (f : is_local s.job a r ≡ true) where
    arrives : s.status (s.job.home r) ≢ Down
    arrives = subst (λ p. s.status p ≢ Down) (local_home s.job a r f) u

    abbrev n : ℕ
    n = (s.live a).sn r + 1

    -- the entry is there: the message is logged under its TN, then the entry is filled
    module _ (e : Entry) (found : entry (s.live r).table a n ≡ some e) (some_tn : e.tn ≢ 0) where
      logged : Good (to_send a l v h) (log_message s message e.tn) x stable
      logged =
          let (i, b, c) = entry_some (s.live r).table a n found in
          good_logged e.tn (λ _. inr (record { entry = e; member = subst (λ k. e ∈ k.table) (sym (live g r arrives)) i; of_sender = b; of_sn = c; of_tn = refl })) (λ _. some_tn)
          (λ c _ d. not_there arrives e.tn c _ d)

      same_table : (logged.mem r).table ≡ (s.live r).table
      unfolding logged good_logged
      same_table = upd_ind (λ c k. k.table ≡ (g.mem c).table) a (logs (next_of (world_now g) a r v h) e.tn (g.mem a)) g.mem refl (λ c _. refl) r ∙ ap (λ k. k.table) (live g r arrives)

      new_count : (logged.mem a).sn r ≡ n
      unfolding logged good_logged
      new_count = rw (upd_same a (logs (next_of (world_now g) a r v h) e.tn (g.mem a)) g.mem, upd_same r ((g.mem a).sn r + 1) (g.mem a).sn) (ap (λ k. k.sn r + 1) from)

      pub keep_found : Good (to_send a l v h) (send_local s message (some e)) x stable
      unfolding send_local next_message log_message new_table
      keep_found = subst (λ s. Good (to_send a l v h) s x stable) (sym (table_log s r (filled a n v h (s.live r).table) message e.tn))
          (good_table logged r arrives (filled a n v h (s.live r).table)
          (subst (λ T. InvP (to_send a l v h) (put_table (world_now logged) r (filled a n v h T))) same_table
          (table_fill logged.inv r next_chare a n v h e (ap (λ T. entry T a n) same_table ∙ found) sent_next (λ _. let c = new_count in omega arith) (λ _ z. true_not_false f z))))

-- ---- a new ticket is entered for a local message, and a NOTE goes out
-- one more entry of a new key is what is found under it, and what is filled
new_found : (l : List Entry) (e : Entry) (s n : ℕ) → All (λ f. entry_key f ≢ (s, n)) l → e.sender ≡ s → e.sn ≡ n → entry (l ++ (e ∷ [])) s n ≡ some e
unfolding entry find for_message
new_found [] e s n h a b = rw (eq-eqb _ _ a, eq-eqb _ _ b)
new_found (x ∷ l) e s n h a b = rw (key_no (tests_entry s n) x (h x (here refl))) (new_found l e s n (λ f i. h f (there i)) a b)

new_filled : (l : List Entry) (e : Entry) (s n v h : ℕ) → All (λ f. entry_key f ≢ (s, n)) l → e.sender ≡ s → e.sn ≡ n → filled s n v h (l ++ (e ∷ [])) ≡ l ++ (fill v h e ∷ [])
unfolding filled change1 for_message
new_filled [] e s n v h k a b = rw (eq-eqb _ _ a, eq-eqb _ _ b)
new_filled (x ∷ l) e s n v h k a b = rw (key_no (tests_entry s n) x (k x (here refl))) (ap (x ∷◌) (new_filled l e s n v h (λ f i. k f (there i)) a b))

module _ {s : State} {x : Run} {stable : ℕ → ℕ} (ok : RunOk s.job x) (a r : ℕ) (l : List ℕ) (v h : ℕ) (g : Good (to_send a (r ∷ l) v h) s x stable)
    (u : s.status (s.job.home a) ≢ Down) (f : is_local s.job a r ≡ true) (empty : entry (s.live r).table a ((s.live a).sn r + 1) ≡ none)
    (near : admitted (seen (s.live r) a ((s.live a).sn r + 1)) ≡ true) where
  abbrev sn : ℕ
  sn = (s.live a).sn r + 1

  abbrev tn : ℕ
  tn = new_tn (s.live r)

  abbrev table : List Entry
  table = (s.live r).table

  up_there : s.status (s.job.home r) ≢ Down
  up_there = subst (λ p. s.status p ≢ Down) (local_home s.job a r f) u

  -- not received and not noted yet
  abbrev ticket : Entry
  ticket = record { sender = a; sn = sn; tn = tn; received = false; noted = false; value = 0; hops = 0 }

  unknown : All (λ e. entry_key e ≢ (a, sn)) table
  unknown = entry_none table a sn empty

  new_ticket : NewEntry (world_now g) r ticket
  new_ticket =
      let here_mem = live g r up_there in
      let from-mem = live g a u in
      record {
        unreceived = refl;
        sent = next_key ok a r l v h g u;
        above = subst (λ k. k.height < tn) (sym here_mem) (new_tn_above (s.live r));
        free = subst (λ k. All (λ e. e.tn ≢ tn) k.table) (sym here_mem) (new_tn_free (s.live r));
        unknown = subst (λ k. All (λ e. entry_key e ≢ (a, sn)) k.table) (sym here_mem) unknown;
        unworked = λ i. let b = g.inv.ordered.worked r a sn (next_chare ok a r l v h g u) f i in let c = ap (λ k. k.sn r) from-mem in omega arith;
        near = subst (λ k. sn ≤ k.mark a + width) (sym here_mem) (admitted_near _ _ _ near);
        local = λ _. f;
        unnoted = λ _. refl;
        next = λ _. let c = ap (λ k. k.sn r) from-mem in omega arith;
      }

  entered : Good (to_send a (r ∷ l) v h) (new_table s r (table ++ (ticket ∷ []))) x stable
  entered = good_table g r up_there (table ++ (ticket ∷ []))
      (subst (λ k. InvP (to_send a (r ∷ l) v h) (put_table (world_now g) r (k.table ++ (ticket ∷ [])))) (live g r up_there) (table_add g.inv r (next_chare ok a r l v h g u) ticket new_ticket))

  -- the state with the ticket entered
  abbrev next : State
  next = new_table s r (table ++ (ticket ∷ []))

  same_sn : (next.live a).sn r + 1 ≡ sn
  same_sn = ap (◌+ 1) (table_keeps (λ k. k.sn r) (λ k l. refl) s r (table ++ (ticket ∷ [])) a)

  now_table : (next.live r).table ≡ table ++ (ticket ∷ [])
  now_table = table_is s r (table ++ (ticket ∷ []))

  same_message : next_message next a r v h ≡ next_message s a r v h
  unfolding next_message
  same_message = ap (λ n. record { sender = a; receiver = r; sn = n; value = v; hops = h }) same_sn

  sent_local : Good (to_send a l v h) (send_local next (next_message next a r v h) (some ticket)) x stable
  unfolding new_table
  sent_local = keep_found ok a r l v h entered u f ticket
      (ap (λ n. entry (next.live r).table a n) same_sn ∙ ap (λ T. entry T a sn) now_table ∙ new_found table ticket a sn unknown refl refl)
      (λ e. let b = new_tn_above (s.live r) in omega arith)

  abbrev after : State
  after = log_message (new_table s r (table ++ (local_entry (next_message s a r v h) tn ∷ []))) (next_message s a r v h) tn

  same_state : send_local next (next_message next a r v h) (some ticket) ≡ after
  unfolding send_local fill local_entry log_message new_table filled new_tn next_message
  same_state = ap (λ m. send_local next m (some ticket)) same_message
      ∙ ap (λ z. log_message z (next_message s a r v h) tn)
      (ap (λ T. new_table next r T) (ap (filled a sn v h) now_table ∙ new_filled table ticket a sn v h unknown refl refl)
      ∙ table_table s r (table ++ (ticket ∷ [])) _)

  ticketed : Good (to_send a l v h) after x stable
  ticketed = subst (λ z. Good (to_send a l v h) z x stable) same_state sent_local

  after_table : (after.live r).table ≡ table ++ (local_entry (next_message s a r v h) tn ∷ [])
  after_table = log_keeps (new_table s r (table ++ (local_entry (next_message s a r v h) tn ∷ []))) (next_message s a r v h) tn r ∙ table_is s r _

  after_count : (after.live a).sn r ≡ sn
  unfolding log_message next_message
  after_count = rw (upd_same a (logs (next_message s a r v h) tn ((new_table s r (table ++ (local_entry (next_message s a r v h) tn ∷ []))).live a)) (new_table s r (table ++ (local_entry (next_message s a r v h) tn ∷ []))).live)
      (upd_same r sn _)

  pub keep_ticket : Good (to_send a l v h) (send_local s (next_message s a r v h) none) x stable
  unfolding send_local about next_message log_message new_table local_entry
  keep_ticket = good_put ticketed _ (record {
    key = next_key ok a r l v h g u;
    fits = (
      f,
      inr (record {
        entry = local_entry (next_message s a r v h) tn;
        member = subst (λ T. local_entry (next_message s a r v h) tn ∈ T) (sym (ap (λ k. k.table) (live ticketed r up_there) ∙ after_table)) (Memᴰ.append_right table (here refl));
        of_sender = refl;
        of_sn = refl;
        of_tn = refl;
      }),
      (let e = ap (λ k. k.sn r) (live ticketed a u) ∙ after_count in omega arith),
      up_there,
    );
  })
