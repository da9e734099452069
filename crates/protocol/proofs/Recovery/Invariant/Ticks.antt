-- Laws on tickets: a message has one, and it stays.
use Rattle.std.specs.Prelude.{◌≡◌, ◌⊎◌, List, ℕ, ◌≤◌, ◌<◌, length}
use Rattle.std.proofs.Common.{sym, ap, ◌∙◌, subst, inl, inr, arith}
use Rattle.std.proofs.Math.Path.{subst₃}
use Rattle.lists.specs.Tests.{lt?}
use Rattle.lists.specs.Lists.{◌∈◌, Prefix}
use Rattle.lists.specs.Keys.{NoDup, uniq}
use Rattle.protocol.specs.declared.Entry.{Entry}
use Rattle.protocol.specs.Parts.{Memory}
use Rattle.protocol.specs.CrashFree.{Run}
use Rattle.protocol.proofs.Recovery.Run.Facts.{message_key}
use Rattle.protocol.proofs.Recovery.Laws.Marks.{In}
use Rattle.protocol.proofs.Recovery.Invariant.World.{World, Pending, Place, HasEntry, Tick, Stable}
use Rattle.protocol.proofs.Recovery.Invariant.Clauses.{Chare, Table, InvP}
use Rattle.protocol.proofs.Recovery.Laws.Places.{place_mono, place_in, place_bound, place_same, place_once}
use Rattle.protocol.proofs.Recovery.Laws.Lookups.{entry_key}

pub tick_run : (x y : Run) (mem : ℕ → Memory) (r : ℕ) {s n t : ℕ} → ((c : ℕ) → Prefix (x.worked c) (y.worked c)) → Tick x mem r s n t → Tick y mem r s n t
tick_run x y mem r g (inl p) = inl (place_mono (g r) p)
tick_run x y mem r g (inr e) = inr e

pub tick_mem : (x : Run) (mem mem' : ℕ → Memory) (r : ℕ) → ((s n t : ℕ) → HasEntry (mem r).table s n t → HasEntry (mem' r).table s n t) → {s n t : ℕ} → Tick x mem r s n t → Tick x mem' r s n t
tick_mem x mem mem' r g (inl p) = inl p
tick_mem x mem mem' r g {s} {n} {t} (inr e) = inr (g s n t e)

pub stable_mono : {x y : Run} {stable stable' : ℕ → ℕ} {r s n : ℕ} → ((c : ℕ) → Prefix (x.worked c) (y.worked c)) → ((c : ℕ) → stable c ≤ stable' c) → Stable x stable r s n → Stable y stable' r s n
stable_mono {r = r} g h p = let a = h r in let b = p.low in record { tn = p.tn; low = omega arith; worked = place_mono (g r) p.worked }

module _ {x : Run} {r h : ℕ} {l : List Entry} (table : Table x r h l) {s n t : ℕ} where
  -- a ticket that the run has reached was worked
  pub tick_place : t ≤ length (x.worked r) → Place (x.worked r) t s n ⊎ HasEntry l s n t → Place (x.worked r) t s n
  tick_place k (inl p) = p
  tick_place k (inr p) =
      let e = p.of_tn in
      subst₃ (Place (x.worked r)) p.of_tn p.of_sender p.of_sn (table.past p.entry p.member (omega arith))

  -- a ticket above the stable height has an entry
  pub tick_entered : h < t → Place (x.worked r) t s n ⊎ HasEntry l s n t → HasEntry l s n t
  tick_entered k (inr p) = p
  tick_entered k (inl p) =
      let last = (place_bound p).1 in
      let (e, i, q) = table.complete t k last in
      let (a, b) = place_same (subst (λ t. Place (x.worked r) t e.sender e.sn) q (table.past e i (subst (◌≤ length (x.worked r)) (sym q) last))) p in
      record { entry = e; member = i; of_sender = a; of_sn = b; of_tn = q }

-- an entry of the message has its ticket
module _ {x : Run} {r h : ℕ} {l : List Entry} (distinct : NoDup message_key (x.worked r)) (table : Table x r h l) where
  place_entry : {s n t : ℕ} → Place (x.worked r) t s n → (e : Entry) → e ∈ l → e.sender ≡ s → e.sn ≡ n → e.tn ≡ t
  place_entry {s} {n} {t} p e i a b = elim (lt? (length (x.worked r)) e.tn) [
    | inl k ↦ absurd (table.fresh e i k (subst (λ s. In (x.worked r) s e.sn) (sym a) (subst (In (x.worked r) s) (sym b) (place_in p))))
    | inr k ↦ place_once distinct (table.past e i k) (subst (λ s. Place (x.worked r) t s e.sn) (sym a) (subst (Place (x.worked r) t s) (sym b) p))
  ]

  pub entered_entry : {s n t : ℕ} → HasEntry l s n t → (e : Entry) → e ∈ l → e.sender ≡ s → e.sn ≡ n → e.tn ≡ t
  entered_entry p e i a b =
      let k : entry_key e ≡ entry_key p.entry = λ i. ((a ∙ sym p.of_sender) i, (b ∙ sym p.of_sn) i) in
      ap (λ (e : Entry). e.tn) (uniq entry_key table.keys i p.member k) ∙ p.of_tn

  pub tick_entry : {s n t : ℕ} → Place (x.worked r) t s n ⊎ HasEntry l s n t → (e : Entry) → e ∈ l → e.sender ≡ s → e.sn ≡ n → e.tn ≡ t
  tick_entry (inl p) = place_entry p
  tick_entry (inr p) = entered_entry p

  -- a message that was worked has no other ticket
  pub tick_once : {s n t u : ℕ} → Place (x.worked r) t s n → Place (x.worked r) u s n ⊎ HasEntry l s n u → t ≡ u
  tick_once p (inl q) = place_once distinct p q
  tick_once p (inr q) = sym (place_entry p q.entry q.member q.of_sender q.of_sn) ∙ q.of_tn

-- no entry above the stable height has a stable key
pub stable_no_entry : {x : Run} {r : ℕ} {stable : ℕ → ℕ} {l : List Entry} → NoDup message_key (x.worked r) → Table x r (stable r) l
    → {s n : ℕ} → Stable x stable r s n → (e : Entry) → e ∈ l → stable r < e.tn → e.sender ≡ s → e.sn ≡ n → ⊥
stable_no_entry distinct table p e i o a b =
    let q = tick_entry distinct table (inl p.worked) e i a b in
    let l = p.low in
    omega arith

-- the run has reached the stable height
pub stable_reached : {p : Pending} {w : World} → InvP p w → (c : ℕ) → Chare w.job c → w.stable c ≤ length (w.run.worked c)
stable_reached inv c k = let a = inv.heights.above_stable c k in let b = (inv.images.image c k).reached in omega arith
