-- A run that has grown: it has worked and sent what it had, and more. What was said of the shorter run holds of the longer.
use Rattle.std.specs.Prelude.{◌≡◌, List, ℕ, ◌-◌, ◌≤◌, length, take}
use Rattle.std.proofs.Common.{sym, subst, inl, inr, le_refl, le_trans}
use Rattle.lists.specs.Lists.{Prefix, prefix_length}
use Rattle.protocol.specs.declared.Message.{Message}
use Rattle.protocol.specs.declared.Logged.{Logged}
use Rattle.protocol.specs.declared.Entry.{Entry}
use Rattle.protocol.specs.Parts.{Job, Memory}
use Rattle.protocol.specs.CrashFree.{Run}
use Rattle.protocol.proofs.Recovery.Run.Facts.{Sent}
use Rattle.protocol.proofs.Recovery.Laws.Marks.{In, Reach}
use Rattle.protocol.proofs.Recovery.Invariant.World.{Place, Tick, Stable, SentKey}
use Rattle.protocol.proofs.Recovery.Invariant.Clauses.{Image, Table, Log}
use Rattle.protocol.proofs.Recovery.Laws.Places.{place_mono, place_take, take_place, place_at, place_same, place_bound, take_within}
use Rattle.protocol.proofs.Recovery.Invariant.Ticks.{stable_mono}

-- ---- places in a list and in a longer one
module _ {a b : List Message} (p : Prefix a b) where
  -- a place of the longer list that is within the shorter
  pub place_back : {t s n : ℕ} → Place b t s n → t ≤ length a → Place a t s n
  place_back {t} {s} {n} q h =
      let (s', n', r) = place_at a t (place_bound q).0 h in
      let e = place_same q (place_mono p r) in
      subst (λ s. Place a t s n) (sym e.0) (subst (λ n. Place a t s' n) (sym e.1) r)

  pub in_take : {s n : ℕ} (k : ℕ) → In (take k a) s n → In (take k b) s n
  in_take k i = let (t, h, q) = take_place k a i in place_take k (place_mono p q) h

  pub reach_take : {s n : ℕ} (k : ℕ) → Reach (take k a) s n → Reach (take k b) s n
  reach_take k r = record { upto = r.upto; all = λ i u v. in_take k (r.all i u v); near = r.near }

pub record Grown (x y : Run) : Type 0 where
  pub worked : (c : ℕ) → Prefix (x.worked c) (y.worked c)
  pub sent : (m : Message) → Sent x m → Sent y m

module _ {x y : Run} (g : Grown x y) where
  pub key_grown : {s r n : ℕ} → SentKey x s r n → SentKey y s r n
  key_grown k = record { message = k.message; sent = g.sent k.message k.sent; of_sender = k.of_sender; of_receiver = k.of_receiver; of_sn = k.of_sn }

  pub stable_grown : {stable : ℕ → ℕ} {r s n : ℕ} → Stable x stable r s n → Stable y stable r s n
  stable_grown h = stable_mono g.worked (λ c. le_refl _) h

  -- an image reads only the first messages
  pub image_grown : {j : Job} {c : ℕ} {m : Memory} {f : ℕ → ℕ} → Image j x c m f → Image j y c m f
  image_grown {j} {c} {m} h =
      let e : take m.height (y.worked c) ≡ take m.height (x.worked c) = take_within (g.worked c) m.height h.reached in
      record { reached = le_trans h.reached (prefix_length (g.worked c)); state = rw e h.state; counts = rw e h.counts; marks = rw e h.marks }

  -- where chare c has worked nothing more
  pub table_grown : {c h : ℕ} {l : List Entry} → y.worked c ≡ x.worked c → Table x c h l → Table y c h l
  table_grown {c} {h} {l} e t = record {
    complete = λ k u v. t.complete k u (rw e at v);
    positive = t.positive;
    tns = t.tns;
    keys = t.keys;
    sent = λ f i. key_grown (t.sent f i);
    past = λ f i v. place_mono (g.worked c) (t.past f i (rw e at v));
    fresh = λ f i u v. t.fresh f i (rw e at u) (rw e at v);
    reach = λ f i. reach_take (g.worked c) (f.tn - 1) (t.reach f i);
    body = λ f i u. g.sent _ (t.body f i u);
  }

  pub log_grown : {j : Job} {stable : ℕ → ℕ} {mem new : ℕ → Memory} {a : ℕ} {l : List Logged} {f : ℕ → ℕ}
      → ((r s n t : ℕ) → Tick x mem r s n t → Tick y new r s n t) → Log j x stable mem a l f → Log j y stable new a l f
  log_grown tick h = record {
    sent = λ z i. g.sent _ (h.sent z i);
    owner = h.owner;
    counted = h.counted;
    keys = h.keys;
    tick = λ z i d. tick _ _ _ _ (h.tick z i d);
    local = h.local;
    whole = λ r n u v. elim (h.whole r n u v) [ inl k ↦ inl k | inr k ↦ inr (stable_grown k) ];
  }
