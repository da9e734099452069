-- A table gets a new ticket; an entry is filled; an entry is noted.
use Rattle.std.specs.Prelude.{◌≡◌, refl, true, false, ◌⊎◌, ◌≢◌, List, [], ◌∷◌, ◌++◌, ℕ, ◌+◌, ◌-◌, ◌≤◌, ◌<◌, length, take}
use Rattle.std.proofs.Common.{sym, ap, ◌∙◌, subst, subst₂, inl, inr, arith}
use Rattle.std.proofs.Math.Path.{subst₃}
use mathlib.Core.List.Memᴰ
use Rattle.std.proofs.Math.Option.{some}
use Rattle.lists.specs.Tests.{lt?, true_not_false}
use Rattle.lists.specs.Lists.{◌∈◌, All, all_snoc, change1}
use Rattle.lists.specs.Keys.{NoDup, nodup_snoc, nodup_change1, uniq}
use Rattle.protocol.specs.Window.{width}
use Rattle.protocol.specs.declared.Entry.{Entry}
use Rattle.protocol.specs.declared.Status.TheVariants.{Up}
use Rattle.protocol.specs.Tickets.{for_message, entry, fill, filled, mark_noted}
use Rattle.protocol.specs.Sending.{is_local}
use Rattle.protocol.specs.History.{message_of}
use Rattle.protocol.proofs.Recovery.Run.Facts.{Sent}
use Rattle.protocol.proofs.Recovery.Laws.Changes.{Key, kept, changed, change_mem, mem_change1_either}
use Rattle.protocol.proofs.Recovery.Laws.Marks.{In, Reach, reach_mono, admitted_reach}
use Rattle.protocol.proofs.Recovery.Laws.Lookups.{tests_entry, entry_some, entry_key}
use Rattle.protocol.proofs.Recovery.Invariant.World.{World, Pending, Place, HasEntry, SentKey, LoggedAs, Kept}
use Rattle.protocol.proofs.Recovery.Invariant.Clauses.{Chare, Table, InvP}
use Rattle.protocol.proofs.Recovery.Laws.Places.{take_mono, place_bound, place_take, in_place, place_same}
use Rattle.protocol.proofs.Recovery.Invariant.Later.{Acked}
use Rattle.protocol.proofs.Recovery.Steps.Retable.{put_table, table_new}

-- ---- a new ticket
-- e may be entered at r: its TN is above the height and free, its key is new there, and its SN is near the mark
pub record NewEntry (w : World) (r : ℕ) (e : Entry) : Type 0 where
  pub unreceived : e.received ≡ false
  pub sent : SentKey w.run e.sender r e.sn
  pub above : (w.mem r).height < e.tn
  pub free : All (λ f. f.tn ≢ e.tn) (w.mem r).table
  pub unknown : All (λ f. entry_key f ≢ entry_key e) (w.mem r).table
  pub unworked : In (take (w.mem r).height (w.run.worked r)) e.sender e.sn → ⊥
  pub near : e.sn ≤ (w.mem r).mark e.sender + width
  pub local : e.noted ≡ false → is_local w.job e.sender r ≡ true
  pub unnoted : is_local w.job e.sender r ≡ true → e.noted ≡ false
  pub next : is_local w.job e.sender r ≡ true → (w.mem e.sender).sn r < e.sn

module _ {p : Pending} {w : World} (inv : InvP p w) (r : ℕ) (chare : Chare w.job r) (e : Entry) (new : NewEntry w r e) where
  table_old : Table w.run r (w.stable r) (w.mem r).table
  table_old = inv.tables r chare

  -- a free TN above the height is above all that was worked
  pub new_above : length (w.run.worked r) < e.tn
  new_above = elim (lt? (length (w.run.worked r)) e.tn) [
    | inl a ↦ a
    | inr a ↦
        let b = inv.heights.above_stable r chare in
        let c = new.above in
        let (f, i, q) = table_old.complete e.tn (omega arith) a in
        absurd (new.free f i q)
  ]

  -- and its key was not worked: above the height there would be an entry
  pub new_fresh : In (w.run.worked r) e.sender e.sn → ⊥
  new_fresh h =
      let (t, q) = in_place (w.run.worked r) h in
      elim (lt? (w.mem r).height t) [
        | inl a ↦
            let b = inv.heights.above_stable r chare in
            let c = (place_bound q).1 in
            let (f, i, k) = table_old.complete t (omega arith) c in
            let d = table_old.past f i (omega arith) in
            let g = place_same (subst (λ t. Place (w.run.worked r) t f.sender f.sn) k d) q in
            new.unknown f i (λ x. (g.0 x, g.1 x))
        | inr a ↦ new.unworked (place_take (w.mem r).height q a)
      ]

  table_more : Table w.run r (w.stable r) ((w.mem r).table ++ (e ∷ []))
  table_more = record {
    complete = λ t a b. let (f, i, q) = table_old.complete t a b in (f, Memᴰ.append_left (e ∷ []) i, q);
    positive = all_snoc (w.mem r).table table_old.positive (let a = new.above in omega arith);
    tns = nodup_snoc _ (w.mem r).table e table_old.tns new.free;
    keys = nodup_snoc entry_key (w.mem r).table e table_old.keys new.unknown;
    sent = all_snoc (w.mem r).table table_old.sent new.sent;
    past = all_snoc (w.mem r).table table_old.past (λ a. let b = new_above in absurd (omega arith));
    fresh = all_snoc (w.mem r).table table_old.fresh (λ _. new_fresh);
    reach = all_snoc (w.mem r).table table_old.reach
        (let a = new.above in
        let b : (w.mem r).height ≤ e.tn - 1 = omega arith in
        reach_mono (take_mono (w.run.worked r) b) (admitted_reach e.sender (inv.images.image r chare).marks new.near));
    body = all_snoc (w.mem r).table table_old.body (λ a. true_not_false a new.unreceived);
  }

  pub table_add : InvP p (put_table w r ((w.mem r).table ++ (e ∷ [])))
  table_add = table_new inv r ((w.mem r).table ++ (e ∷ [])) (record {
    table = table_more;
    received = all_snoc (w.mem r).table (inv.ordered.received r chare) (λ _ a. true_not_false a new.unreceived);
    remembered = all_snoc (w.mem r).table (inv.remembered r chare)
        (λ _ _ _ a. elim a [ inl b ↦ true_not_false b new.unreceived | inr b ↦ let c = new_above in absurd (omega arith) ]);
    unnoted = all_snoc (w.mem r).table (inv.noted.unnoted r chare) (λ a. (new.local a, new_above));
    noted = λ u. all_snoc (w.mem r).table (inv.noted.noted r chare u) (λ _ a b. true_not_false b (new.unnoted a));
    entered = λ s n t i. record {
      entry = i.entry;
      member = Memᴰ.append_left (e ∷ []) i.member;
      of_sender = i.of_sender;
      of_sn = i.of_sn;
      of_tn = i.of_tn;
    };
    acked = λ s n k a b c u. all_snoc (w.mem r).table (c u)
        (λ _ q q'.
        let d = new.next (subst (λ s. is_local w.job s r ≡ true) (sym q) a) in
        let b' = subst (λ s. n ≤ (w.mem s).sn r) (sym q) b in
        absurd (omega arith));
  })

-- ---- entries changed, each under its name and TN
-- the message of an entry that becomes received has been sent, by a sender who knows of it, and of its ticket above the stable height
pub record Arrived (w : World) (r : ℕ) (e : Entry) : Type 0 where
  pub sent : Sent w.run (message_of r e)
  pub local : is_local w.job e.sender r ≡ true → e.sn ≤ (w.mem e.sender).sn r
  pub remote : w.stable r < e.tn → is_local w.job e.sender r ≡ false → w.status (w.job.home e.sender) ≡ Up → LoggedAs (w.mem e.sender).log r e.sn e.tn

-- the entry f of r may become e
pub record Becomes (w : World) (r : ℕ) (f e : Entry) : Type 0 where
  pub sender : f.sender ≡ e.sender
  pub sn : f.sn ≡ e.sn
  pub tn : f.tn ≡ e.tn
  pub received : e.received ≡ true → ((f.received ≡ true) × (f.value ≡ e.value) × (f.hops ≡ e.hops)) ⊎ Arrived w r e
  pub noted : (f.noted ≡ e.noted) ⊎ ((e.noted ≡ true) × (w.stable r < e.tn → is_local w.job e.sender r ≡ true → w.held (w.job.home r) ≡ true
      → Kept w.job w.copy w.notes r e.sender e.sn e.tn))

-- the entries of the new table are those of the old one, as they may become
pub record Rewritten (w : World) (r : ℕ) (l : List Entry) : Type 0 where
  pub old : (e : Entry) → e ∈ l → (f : Entry) × (f ∈ (w.mem r).table) × Becomes w r f e
  pub new : All (λ f. HasEntry l f.sender f.sn f.tn) (w.mem r).table
  pub tns : NoDup (λ (e : Entry). e.tn) l
  pub keys : NoDup entry_key l

pub becomes_self : (w : World) (r : ℕ) (e : Entry) → Becomes w r e e
becomes_self w r e = record { sender = refl; sn = refl; tn = refl; received = λ a. inl (a, refl, refl); noted = inl refl }

same_message : (r : ℕ) (f e : Entry) → f.sender ≡ e.sender → f.sn ≡ e.sn → f.value ≡ e.value → f.hops ≡ e.hops → message_of r f ≡ message_of r e
unfolding message_of
same_message r f e a b c d i = record { sender = a i; receiver = r; sn = b i; value = c i; hops = d i }

-- tickets are the same in both tables
module _ {w : World} {r : ℕ} {l : List Entry} (h : Rewritten w r l) {s n t : ℕ} where
  pub entered_new : HasEntry (w.mem r).table s n t → HasEntry l s n t
  entered_new i = subst₃ (HasEntry l) i.of_sender i.of_sn i.of_tn (h.new i.entry i.member)

module _ {p : Pending} {w : World} (inv : InvP p w) (r : ℕ) (chare : Chare w.job r) (l : List Entry) (h : Rewritten w r l) where
  -- what the name and the TN of each old entry say, those of each new entry say
  carry : (P : ℕ → ℕ → ℕ → Type 0) → All (λ f. P f.sender f.sn f.tn) (w.mem r).table → All (λ e. P e.sender e.sn e.tn) l
  carry P a e i = let (f, j, b) = h.old e i in subst₃ P b.sender b.sn b.tn (a f j)

  table_rewritten : Table w.run r (w.stable r) l
  table_rewritten =
      let t = inv.tables r chare in
      record {
        complete = λ n a b.
            let (f, i, q) = t.complete n a b in
            let e = h.new f i in
            (e.entry, e.member, e.of_tn ∙ q);
        positive = carry (λ _ _ t. 1 ≤ t) t.positive;
        tns = h.tns;
        keys = h.keys;
        sent = carry (λ s n _. SentKey w.run s r n) t.sent;
        past = carry (λ s n t. t ≤ length (w.run.worked r) → Place (w.run.worked r) t s n) t.past;
        fresh = carry (λ s n t. length (w.run.worked r) < t → In (w.run.worked r) s n → ⊥) t.fresh;
        reach = carry (λ s n t. Reach (take (t - 1) (w.run.worked r)) s n) t.reach;
        body = λ e i a.
            let (f, j, b) = h.old e i in
            elim (b.received a) [
              | inl c ↦ subst (Sent w.run) (same_message r f e b.sender b.sn c.1 c.2) (t.body f j c.0)
              | inr c ↦ c.sent
            ];
      }

  still_logged : (f e : Entry) → f ∈ (w.mem r).table → Becomes w r f e
      → w.stable r < e.tn → is_local w.job e.sender r ≡ false → w.status (w.job.home e.sender) ≡ Up
      → (f.received ≡ true) ⊎ (f.tn ≤ length (w.run.worked r)) → LoggedAs (w.mem e.sender).log r e.sn e.tn
  still_logged f e j b o a u d =
      subst₃ (λ s n t. w.stable r < t → is_local w.job s r ≡ false → w.status (w.job.home s) ≡ Up → LoggedAs (w.mem s).log r n t)
      b.sender b.sn b.tn (λ o a u. inv.remembered r chare f j o a u d) o a u

  pub table_rewrite : InvP p (put_table w r l)
  table_rewrite = table_new inv r l (record {
    table = table_rewritten;
    received = λ e i a d.
        let (f, j, b) = h.old e i in
        elim (b.received d) [
          | inl c ↦ subst₂ (λ s n. is_local w.job s r ≡ true → n ≤ (w.mem s).sn r) b.sender b.sn (λ a. inv.ordered.received r chare f j a c.0) a
          | inr c ↦ c.local a
        ];
    remembered = λ e i o a u d.
        let (f, j, b) = h.old e i in
        elim d [
          | inl c ↦ elim (b.received c) [ inl g ↦ still_logged f e j b o a u (inl g.0) | inr g ↦ g.remote o a u ]
          | inr c ↦ still_logged f e j b o a u (inr (subst (◌≤ length (w.run.worked r)) (sym b.tn) c))
        ];
    unnoted = λ e i a.
        let (f, j, b) = h.old e i in
        elim b.noted [
          | inl c ↦ subst₂ (λ s t. (is_local w.job s r ≡ true) × (length (w.run.worked r) < t)) b.sender b.tn (inv.noted.unnoted r chare f j (c ∙ a))
          | inr c ↦ true_not_false c.0 a
        ];
    noted = λ u e i o a d.
        let (f, j, b) = h.old e i in
        elim b.noted [
          | inl c ↦ subst₃ (λ s n t. w.stable r < t → is_local w.job s r ≡ true → Kept w.job w.copy w.notes r s n t)
              b.sender b.sn b.tn (λ o a. inv.noted.noted r chare u f j o a (c ∙ d)) o a
          | inr c ↦ c.1 o a u
        ];
    entered = λ s n t. entered_new h;
    acked = λ s n _ _ _ c u. carry (λ s' n' t. w.stable r < t → s' ≡ s → n' ≡ n → Kept w.job w.copy w.notes r s n t) (c u);
  })

-- the entry of one name changed, if there is one
module _ {p : Pending} {w : World} (inv : InvP p w) (r : ℕ) (chare : Chare w.job r) (s n : ℕ) (g : Entry → Entry)
    (becomes : (f : Entry) → f ∈ (w.mem r).table → f.sender ≡ s → f.sn ≡ n → Becomes w r f (g f))
    (same : (f : Entry) → ((g f).sender ≡ f.sender) × ((g f).sn ≡ f.sn) × ((g f).tn ≡ f.tn)) where
  pub table_change : InvP p (put_table w r (change1 (for_message s n) g (w.mem r).table))
  table_change =
      let t = inv.tables r chare in
      table_rewrite inv r chare _ (record {
        old = λ e i. elim (change_mem (tests_entry s n) g (w.mem r).table t.keys i) [
          | kept j d ↦ (e, j, becomes_self w r e)
          | changed f j k q ↦ (f, j, subst (Becomes w r f) (sym q) (becomes f j (ap (λ (k : Key). k.0) k) (ap (λ (k : Key). k.1) k)))
        ];
        new = λ f i. elim (mem_change1_either (for_message s n) g i) [
          | inl j ↦ record { entry = f; member = j; of_sender = refl; of_sn = refl; of_tn = refl }
          | inr j ↦ record { entry = g f; member = j; of_sender = (same f).0; of_sn = (same f).1; of_tn = (same f).2 }
        ];
        tns = nodup_change1 _ (for_message s n) g (w.mem r).table (λ f. (same f).2) t.tns;
        keys = nodup_change1 entry_key (for_message s n) g (w.mem r).table (λ f i. ((same f).0 i, (same f).1 i)) t.keys;
      })

-- ---- an entry is filled
pub table_fill : {p : Pending} {w : World} → InvP p w → (r : ℕ) → Chare w.job r → (s n v h : ℕ) (e : Entry)
    → entry (w.mem r).table s n ≡ some e
    → Sent w.run (record { sender = s; receiver = r; sn = n; value = v; hops = h })
    → (is_local w.job s r ≡ true → n ≤ (w.mem s).sn r)
    → (w.stable r < e.tn → is_local w.job s r ≡ false → w.status (w.job.home s) ≡ Up → LoggedAs (w.mem s).log r n e.tn)
    → InvP p (put_table w r (filled s n v h (w.mem r).table))
unfolding filled fill message_of
table_fill {w = w} inv r chare s n v h e found sent local remote =
    table_change inv r chare s n (fill v h)
    (λ f i a b.
    let (j, c, d) = entry_some (w.mem r).table s n found in
    let q : e ≡ f = uniq entry_key (inv.tables r chare).keys j i (λ k. ((c ∙ sym a) k, (d ∙ sym b) k)) in
    record {
      sender = refl;
      sn = refl;
      tn = refl;
      received = λ _. inr (record {
        sent = subst₂ (λ s n. Sent w.run (record { sender = s; receiver = r; sn = n; value = v; hops = h })) (sym a) (sym b) sent;
        local = subst₂ (λ s n. is_local w.job s r ≡ true → n ≤ (w.mem s).sn r) (sym a) (sym b) local;
        remote = subst₃ (λ s n t. w.stable r < t → is_local w.job s r ≡ false → w.status (w.job.home s) ≡ Up → LoggedAs (w.mem s).log r n t)
            (sym a) (sym b) (ap (λ (e : Entry). e.tn) q) remote;
      });
      noted = inl refl;
    })
    (λ f. (refl, refl, refl))

-- ---- an entry is noted
pub table_note : {p : Pending} {w : World} → InvP p w → (r : ℕ) → Chare w.job r → (s n : ℕ)
    → (is_local w.job s r ≡ true → Acked w s r n)
    → InvP p (put_table w r (change1 (for_message s n) mark_noted (w.mem r).table))
unfolding mark_noted
table_note {w = w} inv r chare s n acked =
    table_change inv r chare s n mark_noted
    (λ f i a b. record {
      sender = refl;
      sn = refl;
      tn = refl;
      received = λ c. inl (c, refl, refl);
      noted = inr (
        refl,
        λ o. subst₂ (λ s n. is_local w.job s r ≡ true → w.held (w.job.home r) ≡ true → Kept w.job w.copy w.notes r s n f.tn)
            (sym a) (sym b) (λ c u. acked c u f i o a b),
      );
    })
    (λ f. (refl, refl, refl))
