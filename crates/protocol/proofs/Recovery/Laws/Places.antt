-- Laws on the places of messages in a list.
use Rattle.std.specs.Prelude.{◌≡◌, length, take, drop, get_or}
use Rattle.std.proofs.Math.Path.{refl, ap}
use Rattle.std.proofs.Common.{sym, ◌∙◌, subst, inl, inr, arith, length-append, take-append-drop, take-take}
use mathlib.Core.List.Memᴰ
use mathlib.Core.List.Memᴰ.{head as here}
use mathlib.Core.List.{List, [], ◌∷◌, ◌++◌, append_assoc}
use Prim.Native.Nat.{ℕ, zero, suc, ◌+◌, ◌-◌, ◌≤◌}
use Rattle.std.proofs.lemmas.List.{take-append-le}
use Rattle.std.proofs.Math.Seq.{take-append-add, get_or-append_seam, take-append_seam}
use Rattle.lists.specs.Lists.{◌∈◌, Prefix}
use Rattle.lists.specs.Keys.{NoDup}
use Rattle.protocol.specs.declared.Message.{Message}
use Rattle.protocol.proofs.Recovery.Run.Facts.{message_key}
use Rattle.protocol.proofs.Recovery.Laws.Marks.{In, in_mono}
use Rattle.protocol.proofs.Recovery.Invariant.World.{Place}

-- ---- beginnings of a list
module _ {A : Type 0} where
  pub take_prefix : (k : ℕ) (l : List A) → Prefix (take k l) l
  take_prefix k l = record { rest = drop k l; joined = sym (take-append-drop k l) }

  pub take_mono : {j k : ℕ} (l : List A) → j ≤ k → Prefix (take j l) (take k l)
  take_mono {j} {k} l h = record { rest = drop j (take k l); joined = sym (ap (◌++ drop j (take k l)) (sym (take-take j k l h)) ∙ take-append-drop j (take k l)) }

  -- a beginning that is within a prefix is a beginning of both
  pub take_within : {a b : List A} → Prefix a b → (k : ℕ) → k ≤ length a → take k b ≡ take k a
  take_within {a} p k h = ap (take k) p.joined ∙ take-append-le k a p.rest h

module _ {A K : Type 0} (k : A → K) where
  -- equal keys stand at equal places
  same_place : (b b' : List A) (m m' : A) (a a' : List A) → NoDup k (b ++ (m ∷ a)) → b ++ (m ∷ a) ≡ b' ++ (m' ∷ a') → k m ≡ k m' → length b ≡ length b'
  unfolding NoDup
  same_place [] [] m m' a a' d e q = refl
  same_place [] (x ∷ b') m m' a a' d e q =
      let t : a ≡ b' ++ (m' ∷ a') = cc in
      absurd (d.0 m' (subst (m' ∈◌) (sym t) (Memᴰ.append_right b' (here refl))) (sym q))
  same_place (x ∷ b) [] m m' a a' d e q =
      let h : x ≡ m' = cc in
      absurd (d.0 m (Memᴰ.append_right b (here refl)) (q ∙ ap k (sym h)))
  same_place (x ∷ b) (y ∷ b') m m' a a' d e q =
      let t : b ++ (m ∷ a) ≡ b' ++ (m' ∷ a') = cc in
      ap suc (same_place b b' m m' a a' d.1 t q)

module _ {l : List Message} {t s n : ℕ} where
  pub place_bound : Place l t s n → (1 ≤ t) × (t ≤ length l)
  place_bound p =
      let e = ap length p.split ∙ length-append p.before (p.message ∷ p.after) in
      let f = p.place in
      (omega arith, omega arith)

  pub place_append : (k : List Message) → Place l t s n → Place (l ++ k) t s n
  place_append k p = record {
    before = p.before;
    message = p.message;
    after = p.after ++ k;
    split = ap (◌++ k) p.split ∙ append_assoc p.before (p.message ∷ p.after) k;
    place = p.place;
    of_sender = p.of_sender;
    of_sn = p.of_sn;
  }

  pub place_mono : {k : List Message} → Prefix l k → Place l t s n → Place k t s n
  place_mono q p = subst (λ k. Place k t s n) (sym q.joined) (place_append q.rest p)

  pub place_in : Place l t s n → In l s n
  place_in p = record {
    message = p.message;
    member = subst (p.message ∈◌) (sym p.split) (Memᴰ.append_right p.before (here refl));
    of_sender = p.of_sender;
    of_sn = p.of_sn;
  }

  -- the message at the place, as what a beginning of that length ends with
  pub place_end : Place l t s n → take t l ≡ take (t - 1) l ++ (get_or l (t - 1) (record { sender = 0; receiver = 0; sn = 0; value = 0; hops = 0 }) ∷ [])
  place_end p =
      let e : t ≡ suc (length p.before) = p.place in
      let f : t - 1 ≡ length p.before = omega arith in
      let g : t ≡ length p.before + 1 = omega arith in
      rw (f, g, p.split, take-append-add p.before (p.message ∷ p.after) 1, take-append_seam p.before (p.message ∷ p.after), get_or-append_seam p.before p.message p.after)

-- a place within a beginning
place_cut : {l : List Message} {t s n : ℕ} → Place l t s n → Place (take t l) t s n
place_cut {l} {t} p = record {
  before = p.before;
  message = p.message;
  after = [];
  split =
      (let e : t ≡ suc (length p.before) = p.place in
      let g : t ≡ length p.before + 1 = omega arith in
      rw (g, p.split) (take-append-add p.before (p.message ∷ p.after) 1));
  place = p.place;
  of_sender = p.of_sender;
  of_sn = p.of_sn;
}

pub place_take : {l : List Message} {t s n : ℕ} (k : ℕ) → Place l t s n → t ≤ k → In (take k l) s n
place_take {l} k p h = in_mono (take_mono l h) (place_in (place_cut p))

pub in_place : {s n : ℕ} (l : List Message) → In l s n → (t : ℕ) × Place l t s n
in_place {s} {n} l h = go l h.member
  where
    go : (k : List Message) → h.message ∈ k → (t : ℕ) × Place k t s n
    go [] i = absurd (Memᴰ.not-nil i)
    go (x ∷ k) i = elim (Memᴰ.cases_cons i) [
      | inl e ↦ (1, record { before = []; message = x; after = k; split = refl; place = refl; of_sender = ap (λ (m : Message). m.sender) (sym e) ∙ h.of_sender; of_sn = ap (λ (m : Message). m.sn) (sym e) ∙ h.of_sn })
      | inr j ↦ let (t, p) = go k j in (suc t, record { before = x ∷ p.before; message = p.message; after = p.after; split = ap (x ∷◌) p.split; place = ap suc p.place; of_sender = p.of_sender; of_sn = p.of_sn })
    ]

pub take_place : {s n : ℕ} (k : ℕ) (l : List Message) → In (take k l) s n → (t : ℕ) × (t ≤ k) × Place l t s n
take_place k l h =
    let (t, p) = in_place (take k l) h in
    let b = place_bound p in
    let c = length_take' k l in
    (t, omega arith, place_mono (take_prefix k l) p)
  where
    length_take' : (k : ℕ) (l : List Message) → length (take k l) ≤ k
    length_take' zero l = omega arith
    length_take' (suc k) [] = omega arith
    length_take' (suc k) (x ∷ l) = let h = length_take' k l in omega arith

pub place_same : {l : List Message} {t s n s' n' : ℕ} → Place l t s n → Place l t s' n' → (s ≡ s') × (n ≡ n')
place_same {l} p q =
    let d = p.message in
    let e : length p.before ≡ length q.before = (let a = p.place in let b = q.place in omega arith) in
    let a : get_or l (length p.before) d ≡ p.message = ap (λ l. get_or l (length p.before) d) p.split ∙ get_or-append_seam p.before p.message p.after d in
    let b : get_or l (length q.before) d ≡ q.message = ap (λ l. get_or l (length q.before) d) q.split ∙ get_or-append_seam q.before q.message q.after d in
    let c : p.message ≡ q.message = sym a ∙ ap (λ i. get_or l i d) e ∙ b in
    (sym p.of_sender ∙ ap (λ (m : Message). m.sender) c ∙ q.of_sender, sym p.of_sn ∙ ap (λ (m : Message). m.sn) c ∙ q.of_sn)

pub place_once : {l : List Message} {t t' s n : ℕ} → NoDup message_key l → Place l t s n → Place l t' s n → t ≡ t'
place_once d p q =
    let k : message_key p.message ≡ message_key q.message = λ i. ((p.of_sender ∙ sym q.of_sender) i, (p.of_sn ∙ sym q.of_sn) i) in
    p.place ∙ ap suc (same_place message_key p.before q.before p.message q.message p.after q.after (subst (NoDup message_key) p.split d) (sym p.split ∙ q.split) k) ∙ sym q.place

pub place_last : (l : List Message) (m : Message) → Place (l ++ (m ∷ [])) (suc (length l)) m.sender m.sn
place_last l m = record { before = l; message = m; after = []; split = refl; place = refl; of_sender = refl; of_sn = refl }

-- every place has a message
pub place_at : (l : List Message) (t : ℕ) → 1 ≤ t → t ≤ length l → (s : ℕ) × (n : ℕ) × Place l t s n
place_at [] t h k = absurd (omega arith)
place_at (x ∷ l) zero h k = absurd (omega arith)
place_at (x ∷ l) (suc zero) h k = (x.sender, x.sn, record { before = []; message = x; after = l; split = refl; place = refl; of_sender = refl; of_sn = refl })
place_at (x ∷ l) (suc (suc t)) h k =
    let (s, n, p) = place_at l (suc t) (omega arith) (omega arith) in
    (s, n, record { before = x ∷ p.before; message = p.message; after = p.after; split = ap (x ∷◌) p.split; place = ap suc p.place; of_sender = p.of_sender; of_sn = p.of_sn })
