-- The table of a chare that works an entry of it: the run has the entry's message at the place that its TN says.
use Rattle.std.specs.Prelude.{◌≡◌, false, ◌⊎◌, List, [], ◌∷◌, ◌++◌, length, take}
use Rattle.std.proofs.Common.{sym, ap, ◌∙◌, subst, inl, inr, arith}
use Rattle.std.proofs.Math.Path.{subst⁻¹}
use Prim.Native.Nat.{ℕ, suc, ◌+◌, ◌-◌, ◌≤◌}
use Rattle.std.proofs.Math.Seq.{length-take-le}
use Rattle.lists.specs.Lists.{◌∈◌, All, prefix_length}
use Rattle.lists.specs.Keys.{uniq}
use Rattle.protocol.specs.declared.Entry.{Entry}
use Rattle.protocol.specs.Parts.{Job}
use Rattle.protocol.specs.CrashFree.{Run}
use Rattle.protocol.specs.History.{message_of}
use Rattle.protocol.proofs.Recovery.Laws.Marks.{In, has, false_has}
use Rattle.protocol.proofs.Recovery.Invariant.World.{Place}
use Rattle.protocol.proofs.Recovery.Invariant.Clauses.{Table}
use Rattle.protocol.proofs.Recovery.Laws.Places.{place_mono, place_in, in_place, take_place, place_same, place_once, place_last, place_bound, take_prefix}
use Rattle.protocol.proofs.Recovery.Run.Grown.{key_grown, place_back, reach_take}
use Rattle.protocol.proofs.Recovery.Steps.WorkRun.{Works}
use Rattle.protocol.proofs.Recovery.Laws.Lookups.{entry_key}

module _ {j : Job} {x y : Run} {c k s : ℕ} {l : List Entry} {e : Entry} (table : Table x c s l) (reached : k ≤ length (x.worked c)) (member : e ∈ l) (next : e.tn ≡ k + 1)
    (g : Works j x y c k (message_of c e)) where
  pub new_place : Place (y.worked c) (k + 1) e.sender e.sn
  unfolding message_of
  new_place =
      let q : suc (length (take k (x.worked c))) ≡ k + 1 = omega (arith, length-take-le k (x.worked c) reached) in
      place_mono (take_prefix (k + 1) (y.worked c)) (subst⁻¹ (λ l. Place l (k + 1) e.sender e.sn) g.longer
      (subst (λ t. Place (take k (x.worked c) ++ (message_of c e ∷ [])) t e.sender e.sn) q (place_last (take k (x.worked c)) (message_of c e))))

  -- it is none of the first k
  pub new_message : has (take k (x.worked c)) e.sender e.sn ≡ false
  new_message = false_has (take k (x.worked c)) e.sender e.sn (λ i.
      let (t, h, p) = take_place k (x.worked c) i in
      let q = place_once (g.ok.distinct c) (place_mono (g.grown.worked c) p) new_place in
      omega arith)

  the_entry : (f : Entry) → f ∈ l → f.tn ≡ k + 1 → f ≡ e
  the_entry f i q = uniq (λ (e : Entry). e.tn) table.tns i member (q ∙ sym next)

  -- an entry with a place in the run had one before, or is the entry
  pub placed_works : All (λ f. f.tn ≤ length (y.worked c) → (f.tn ≤ length (x.worked c)) ⊎ (f ≡ e)) l
  placed_works f i h = elim (g.bound f.tn h) [ inl u ↦ inl u | inr u ↦ inr (the_entry f i u) ]

  -- a message that has a place in the run had one before, or is the entry's
  in_works : (f : Entry) → f ∈ l → In (y.worked c) f.sender f.sn → In (x.worked c) f.sender f.sn ⊎ (f ≡ e)
  in_works f i h =
      let (t, p) = in_place (y.worked c) h in
      elim (g.bound t (place_bound p).1) [
        | inl u ↦ inl (place_in (place_back (g.grown.worked c) p u))
        | inr u ↦
            let q = place_same (subst (λ t. Place (y.worked c) t f.sender f.sn) u p) new_place in
            inr (uniq entry_key table.keys i member (λ i. (q.0 i, q.1 i)))
      ]

  pub table_works : Table y c s l
  table_works = record {
    complete = λ t h u. elim (g.bound t u) [ inl v ↦ table.complete t h v | inr v ↦ (e, member, next ∙ sym v) ];
    positive = table.positive;
    tns = table.tns;
    keys = table.keys;
    sent = λ f i. key_grown g.grown (table.sent f i);
    past = λ f i h. elim (placed_works f i h) [
      | inl u ↦ place_mono (g.grown.worked c) (table.past f i u)
      | inr u ↦ subst⁻¹ (λ (f : Entry). Place (y.worked c) f.tn f.sender f.sn) u (subst⁻¹ (λ t. Place (y.worked c) t e.sender e.sn) next new_place)
    ];
    fresh = λ f i h u. elim (in_works f i u) [
      | inl v ↦ table.fresh f i (let z = prefix_length (g.grown.worked c) in omega arith) v
      | inr v ↦ let z : f.tn ≡ k + 1 = ap (λ (f : Entry). f.tn) v ∙ next in let r = g.reached in omega arith
    ];
    reach = λ f i. reach_take (g.grown.worked c) (f.tn - 1) (table.reach f i);
    body = λ f i u. g.grown.sent _ (table.body f i u);
  }
