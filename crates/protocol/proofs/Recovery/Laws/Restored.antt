-- The table that a restart puts back: where each entry comes from, and that each source has one.
use Rattle.std.specs.Prelude.{◌≡◌, false, ◌⊎◌, ℕ, ◌<◌, eqb}
use Rattle.std.proofs.Math.Path.{refl, ap, subst}
use Rattle.std.proofs.Common.{sym, subst₂, ◌∙◌}
use Rattle.std.proofs.Math.Logic.{inl, inr}
use mathlib.Core.List.Memᴰ
use mathlib.Core.List.Memᴰ.{head as here}
use mathlib.Core.List.Memᴰ.{tail as there}
use mathlib.Core.List.{List, [], ◌∷◌, map}
use borrow.Author.Tests.{eqb-true, eq-eqb, ltb-true, lt-ltb}
use Rattle.lists.specs.Tests.{either, and_l, and_r, and_i}
use Rattle.lists.specs.Lists.{◌∈◌, keep, keep_mem, mem_keep, anyb, anyb_true, anyb_false, gather, gather_mem, mem_gather, map_mem, mem_map}
use Rattle.lists.specs.Keys.{NoDup, nodup_nil, nodup_snoc}
use Rattle.protocol.specs.declared.Logged.{Logged}
use Rattle.protocol.specs.declared.Entry.{Entry}
use Rattle.protocol.specs.declared.Note.{Note}
use Rattle.protocol.specs.Parts.{State, on, every_sender}
use Rattle.protocol.specs.Tickets.{for_message, unreceived}
use Rattle.protocol.specs.Restart.{ticket_of_entry, ticket_of_logged, ticket_of_note, is_ticketed_above, other_log, is_note_above, known_tickets, enter, enter_all, restored_table}
use Rattle.protocol.proofs.Recovery.Laws.Changes.{Key, no_key, keep_gather, gather_ext}
use Rattle.protocol.proofs.Recovery.Laws.Lookups.{tests_entry, entry_key}

-- ---- without doubles
enter_mem : (l : List Entry) (e : Entry) {x : Entry} → x ∈ enter l e → (x ∈ l) ⊎ (x ≡ e)
unfolding enter
enter_mem l e i = either (anyb (for_message e.sender e.sn) l)
    (λ f. inl (rw f at i))
    (λ f. elim (Memᴰ.append_cases l (rw f at i)) [ inl j ↦ inl j | inr j ↦ inr (Memᴰ.eq_of_singleton j) ])

enter_keeps : (l : List Entry) (e : Entry) {x : Entry} → x ∈ l → x ∈ enter l e
unfolding enter
enter_keeps l e i = either (anyb (for_message e.sender e.sn) l) (λ f. rw f i) (λ f. rw f (Memᴰ.append_left _ i))

enter_has : (l : List Entry) (e : Entry) → (x : Entry) × (x ∈ enter l e) × (entry_key x ≡ entry_key e)
unfolding enter
enter_has l e = either (anyb (for_message e.sender e.sn) l)
    (λ f. let (x, i, p) = anyb_true _ l f in (x, rw f i, (tests_entry e.sender e.sn).yes_key x p))
    (λ f. (e, rw f (Memᴰ.append_right l (here refl)), refl))

nodup_enter : (l : List Entry) (e : Entry) → NoDup entry_key l → NoDup entry_key (enter l e)
unfolding enter
nodup_enter l e h = either (anyb (for_message e.sender e.sn) l)
    (λ f. rw f h)
    (λ f. rw f (nodup_snoc entry_key l e h (λ x i. no_key (tests_entry e.sender e.sn) x (anyb_false _ l f x i))))

pub enter_all_mem : (l es : List Entry) {x : Entry} → x ∈ enter_all l es → (x ∈ l) ⊎ (x ∈ es)
unfolding enter_all
enter_all_mem l [] i = inl i
enter_all_mem l (e ∷ es) i = elim (enter_all_mem (enter l e) es i) [
  | inl j ↦ elim (enter_mem l e j) [ inl k ↦ inl k | inr q ↦ inr (here q) ]
  | inr j ↦ inr (there j)
]

pub enter_all_keeps : (l es : List Entry) {x : Entry} → x ∈ l → x ∈ enter_all l es
unfolding enter_all
enter_all_keeps l [] i = i
enter_all_keeps l (e ∷ es) i = enter_all_keeps (enter l e) es (enter_keeps l e i)

pub enter_all_has : {e : Entry} (l : List Entry) {es : List Entry} → e ∈ es → (x : Entry) × (x ∈ enter_all l es) × (entry_key x ≡ entry_key e)
unfolding enter_all
enter_all_has l (here {x = y} {xs = es} q) =
    let (x, i, k) = enter_has l y in
    (x, enter_all_keeps (enter l y) es i, k ∙ sym (ap entry_key q))
enter_all_has l (there {x = y} i) = enter_all_has (enter l y) i

pub nodup_enter_all : (l es : List Entry) → NoDup entry_key l → NoDup entry_key (enter_all l es)
unfolding enter_all
nodup_enter_all l [] h = h
nodup_enter_all l (e ∷ es) h = nodup_enter_all (enter l e) es (nodup_enter l e h)

-- ---- where TN t of the message (a, n) to c can be known from, at a restart of p
-- the copy's table
pub record Copied (s : State) (c a n t : ℕ) : Type 0 where
  pub ticket : Entry
  pub member : ticket ∈ (s.copy c).table
  pub of_sender : ticket.sender ≡ a
  pub of_sn : ticket.sn ≡ n
  pub of_tn : ticket.tn ≡ t

-- the desk's log or one on another machine
pub record LoggedElsewhere (s : State) (p c a n t : ℕ) : Type 0 where
  pub place : ℕ
  pub known : place ∈ every_sender
  pub elsewhere : on s.job p place ≡ false
  pub logged : Logged
  pub member : logged ∈ (s.live place).log
  pub of_receiver : logged.message.receiver ≡ c
  pub of_sender : logged.message.sender ≡ a
  pub of_sn : logged.message.sn ≡ n
  pub of_tn : logged.tn ≡ t
  pub above : (s.copy c).height < t

-- the buddy's notes
pub record NotedFor (s : State) (p c a n t : ℕ) : Type 0 where
  pub note : Note
  pub member : note ∈ s.notes p
  pub of_receiver : note.receiver ≡ c
  pub of_sender : note.sender ≡ a
  pub of_sn : note.sn ≡ n
  pub of_tn : note.tn ≡ t
  pub above : (s.copy c).height < t

pub data Source (s : State) (p c a n t : ℕ) : Type 0 where
  by_copy : Copied s c a n t → Source s p c a n t
  by_log : LoggedElsewhere s p c a n t → Source s p c a n t
  by_note : NotedFor s p c a n t → Source s p c a n t

unreceived_eq : {a b n m t u : ℕ} → a ≡ b → n ≡ m → t ≡ u → unreceived a n t ≡ unreceived b m u
unreceived_eq p q r i = unreceived (p i) (q i) (r i)

-- an entry as it is restored, from a source
pub record FromSource (s : State) (p c : ℕ) (e : Entry) : Type 0 where
  pub plain : e ≡ unreceived e.sender e.sn e.tn
  pub source : Source s p c e.sender e.sn e.tn

other_log_mem : (s : State) (p q : ℕ) {x : Logged} → x ∈ other_log s p q → (on s.job p q ≡ false) × (x ∈ (s.live q).log)
unfolding other_log
other_log_mem s p q i = either (on s.job p q) (λ e. absurd (Memᴰ.not-nil (rw e at i))) (λ e. (e, rw e at i))

mem_other_log : (s : State) (p q : ℕ) {x : Logged} → on s.job p q ≡ false → x ∈ (s.live q).log → x ∈ other_log s p q
unfolding other_log
mem_other_log s p q e i = rw e i

module _ (s : State) (p c : ℕ) where
  from_copy : {e f : Entry} → f ∈ (s.copy c).table → ticket_of_entry f ≡ e → FromSource s p c e
  unfolding ticket_of_entry unreceived
  from_copy {f = f} i q = subst (FromSource s p c) q
      (record { plain = refl; source = by_copy (record { ticket = f; member = i; of_sender = refl; of_sn = refl; of_tn = refl }) })

  from_log : {e : Entry} {x : Logged} → x ∈ keep (is_ticketed_above c (s.copy c).height) (gather (other_log s p) every_sender) → ticket_of_logged x ≡ e → FromSource s p c e
  unfolding is_ticketed_above ticket_of_logged unreceived
  from_log {x = x} i q =
      let (j, b) = keep_mem _ _ i in
      let (k, m, l) = gather_mem (other_log s p) every_sender j in
      let o = other_log_mem s p k l in
      subst (FromSource s p c) q
      (record {
        plain = refl;
        source = by_log (record {
          place = k;
          known = m;
          elsewhere = o.0;
          logged = x;
          member = o.1;
          of_receiver = eqb-true _ _ (and_l _ _ b);
          of_sender = refl;
          of_sn = refl;
          of_tn = refl;
          above = ltb-true _ _ (and_r (eqb x.message.receiver c) _ b);
        });
      })

  from_note : {e : Entry} {k : Note} → k ∈ keep (is_note_above c (s.copy c).height) (s.notes p) → ticket_of_note k ≡ e → FromSource s p c e
  unfolding is_note_above ticket_of_note unreceived
  from_note {k = k} i q =
      let (j, b) = keep_mem _ _ i in
      subst (FromSource s p c) q
      (record {
        plain = refl;
        source = by_note (record {
          note = k;
          member = j;
          of_receiver = eqb-true _ _ (and_l _ _ b);
          of_sender = refl;
          of_sn = refl;
          of_tn = refl;
          above = ltb-true _ _ (and_r (eqb k.receiver c) _ b);
        });
      })

  pub known_source : {e : Entry} → e ∈ known_tickets s p c → FromSource s p c e
  unfolding known_tickets
  known_source i = elim (Memᴰ.append_cases (map ticket_of_entry (s.copy c).table) i) [
    | inl j ↦ let (f, k, q) = mem_map ticket_of_entry _ j in from_copy k q
    | inr j ↦ elim (Memᴰ.append_cases (map ticket_of_logged (keep (is_ticketed_above c (s.copy c).height) (gather (other_log s p) every_sender))) j) [
      | inl k ↦ let (x, l, q) = mem_map ticket_of_logged _ k in from_log l q
      | inr k ↦ let (x, l, q) = mem_map ticket_of_note _ k in from_note l q
    ]
  ]

  pub source_known : {a n t : ℕ} → Source s p c a n t → unreceived a n t ∈ known_tickets s p c
  unfolding known_tickets ticket_of_entry ticket_of_logged ticket_of_note is_ticketed_above is_note_above
  source_known (by_copy r) = Memᴰ.append_left _
      (Memᴰ.cast (unreceived_eq (sym r.of_sender) (sym r.of_sn) (sym r.of_tn)) (map_mem ticket_of_entry r.member))
  source_known (by_log r) = Memᴰ.append_right (map ticket_of_entry (s.copy c).table) (Memᴰ.append_left _
      (Memᴰ.cast (unreceived_eq (sym r.of_sender) (sym r.of_sn) (sym r.of_tn))
      (map_mem ticket_of_logged
      (mem_keep (is_ticketed_above c (s.copy c).height)
      (mem_gather (other_log s p) r.known (mem_other_log s p r.place r.elsewhere r.member))
      (and_i _ _ (eq-eqb _ _ r.of_receiver) (lt-ltb _ _ (subst ((s.copy c).height <◌) (sym r.of_tn) r.above)))))))
  source_known (by_note r) = Memᴰ.append_right (map ticket_of_entry (s.copy c).table)
      (Memᴰ.append_right (map ticket_of_logged (keep (is_ticketed_above c (s.copy c).height) (gather (other_log s p) every_sender)))
      (Memᴰ.cast (unreceived_eq (sym r.of_sender) (sym r.of_sn) (sym r.of_tn))
      (map_mem ticket_of_note
      (mem_keep (is_note_above c (s.copy c).height) r.member
      (and_i _ _ (eq-eqb _ _ r.of_receiver) (lt-ltb _ _ (subst ((s.copy c).height <◌) (sym r.of_tn) r.above)))))))

  -- ---- the restored table
  pub restored_table_mem : {e : Entry} → e ∈ restored_table s p c → FromSource s p c e
  unfolding restored_table
  restored_table_mem i = elim (enter_all_mem [] (known_tickets s p c) i) [ inl j ↦ absurd (Memᴰ.not-nil j) | inr j ↦ known_source j ]

  pub restored_has : {a n t : ℕ} → Source s p c a n t → (e : Entry) × (e ∈ restored_table s p c) × (e.sender ≡ a) × (e.sn ≡ n)
  unfolding restored_table unreceived
  restored_has r =
      let (e, i, k) = enter_all_has [] (source_known r) in
      (e, i, ap (λ (x : Key). x.0) k, ap (λ (x : Key). x.1) k)

  -- where all sources agree on its TN, the ticket itself is there
  pub restored_the : {a n t : ℕ} → Source s p c a n t → ((u : ℕ) → Source s p c a n u → u ≡ t) → unreceived a n t ∈ restored_table s p c
  restored_the r agree =
      let (e, i, v, w) = restored_has r in
      let f = restored_table_mem i in
      let u = agree e.tn (subst₂ (λ x y. Source s p c x y e.tn) v w f.source) in
      Memᴰ.cast (unreceived_eq (sym v) (sym w) (sym u) ∙ sym f.plain) i

  pub nodup_restored_table : NoDup entry_key (restored_table s p c)
  unfolding restored_table
  nodup_restored_table = nodup_enter_all [] (known_tickets s p c) (nodup_nil entry_key)

-- the restored table depends only on the copy, on the notes, and on the messages with a TN above the copied height in logs elsewhere
module _ (s u : State) (p c : ℕ) (same_job : u.job ≡ s.job) (same_copy : u.copy c ≡ s.copy c) (same-notes : u.notes p ≡ s.notes p) where
  same_logs : (q h : ℕ)
      → (on s.job p q ≡ false → keep (is_ticketed_above c h) (u.live q).log ≡ keep (is_ticketed_above c h) (s.live q).log)
      → keep (is_ticketed_above c h) (other_log u p q) ≡ keep (is_ticketed_above c h) (other_log s p q)
  unfolding other_log
  same_logs q h e = rw same_job (either (on s.job p q) (λ f. rw f) (λ f. rw f (e f)))

  pub restored_table_same : ((q : ℕ) → q ∈ every_sender → on s.job p q ≡ false
      → keep (is_ticketed_above c (s.copy c).height) (u.live q).log ≡ keep (is_ticketed_above c (s.copy c).height) (s.live q).log)
      → restored_table u p c ≡ restored_table s p c
  unfolding restored_table known_tickets
  restored_table_same e =
      let k = is_ticketed_above c (s.copy c).height in
      let g : gather (λ q. keep k (other_log u p q)) every_sender ≡ gather (λ q. keep k (other_log s p q)) every_sender =
      gather_ext _ _ every_sender (λ q i. same_logs q (s.copy c).height (e q i)) in
      rw (same_copy, same-notes, keep_gather k (other_log u p), keep_gather k (other_log s p), g)
