-- Mark and window say which messages of a list have been worked.
use Rattle.std.specs.Prelude.{◌≡◌, refl, Bool, true, false, ◌&&◌, ◌≢◌, ◌⊎◌, List, [], ◌∷◌, ◌++◌, ℕ, zero, suc, ◌+◌, ◌-◌, ◌≤◌, ◌<◌, eqb}
use Rattle.std.proofs.Common.{sym, ap, ◌∙◌, subst, subst₂, inl, inr, arith, eqb-true, eq-eqb}
use mathlib.Core.List.Memᴰ
use mathlib.Core.List.Memᴰ.{head as here}
use Rattle.lists.specs.Tests.{either, true_not_false, lt?, and_l, and_r, and_i}
use Rattle.lists.specs.Map.{upd_other, upd_ind, upd_ind₂}
use Rattle.lists.specs.Lists.{◌∈◌, anyb, anyb_true, true_anyb, Prefix}
use Rattle.protocol.specs.declared.Message.{Message}
use Rattle.protocol.specs.declared.Entry.{Entry}
use Rattle.protocol.specs.Parts.{Memory}
use Rattle.protocol.specs.Window.{Bits, worked, bit_set, ones, rise, risen_mark, slid_window, width}
use Rattle.protocol.specs.Working.{work_entry}
use Rattle.protocol.specs.Packets.{is_worked}
use Rattle.protocol.specs.History.{message_of}
use Rattle.protocol.proofs.Recovery.Laws.Look.{look_low, worked_near, worked_bit, is_opened}

-- ---- a message of sender s with SN n is in the list
pub record In (l : List Message) (s n : ℕ) : Type 0 where
  pub message : Message
  pub member : message ∈ l
  pub of_sender : message.sender ≡ s
  pub of_sn : message.sn ≡ n

unfoldable pub is_from : ℕ → ℕ → Message → Bool
is_from s n x = eqb x.sender s && eqb x.sn n

unfoldable pub has : List Message → ℕ → ℕ → Bool
has l s n = anyb (is_from s n) l

pub has_true : (l : List Message) (s n : ℕ) → has l s n ≡ true → In l s n
unfolding has is_from
has_true l s n e =
    let (x, i, p) = anyb_true (is_from s n) l e in
    record {
      message = x;
      member = i;
      of_sender = eqb-true _ _ (and_l _ _ p);
      of_sn = eqb-true _ _ (and_r (eqb x.sender s) _ p);
    }

pub true_has : {l : List Message} {s n : ℕ} → In l s n → has l s n ≡ true
unfolding has is_from
true_has {s = s} {n = n} h =
    true_anyb (is_from s n) h.member (and_i _ _ (eq-eqb _ _ h.of_sender) (eq-eqb _ _ h.of_sn))

pub has_false : {l : List Message} {s n : ℕ} → has l s n ≡ false → In l s n → ⊥
has_false e h = true_not_false (true_has h) e

pub false_has : (l : List Message) (s n : ℕ) → (In l s n → ⊥) → has l s n ≡ false
false_has l s n h = either (has l s n) (λ e. absurd (h (has_true l s n e))) (λ e. e)

-- the test depends only on what is in the list
pub has_same : (l k : List Message) (s n : ℕ) → (In l s n → In k s n) → (In k s n → In l s n) → has l s n ≡ has k s n
has_same l k s n f g = either (has l s n)
    (λ e. e ∙ sym (true_has (f (has_true l s n e))))
    (λ e. e ∙ sym (false_has k s n (λ h. has_false e (g h))))

pub in_append : {l : List Message} {s n : ℕ} (k : List Message) → In l s n → In (l ++ k) s n
in_append k h = record { message = h.message; member = Memᴰ.append_left k h.member; of_sender = h.of_sender; of_sn = h.of_sn }

pub in_mono : {l k : List Message} {s n : ℕ} → Prefix l k → In l s n → In k s n
in_mono {s = s} {n = n} p h = subst (λ k. In k s n) (sym p.joined) (in_append p.rest h)

pub in_last : (l : List Message) (x : Message) → In (l ++ (x ∷ [])) x.sender x.sn
in_last l x = record { message = x; member = Memᴰ.append_right l (here refl); of_sender = refl; of_sn = refl }

-- one more message: what is in the longer list was in the shorter, or is the message
pub in_snoc : {s n : ℕ} (l : List Message) (x : Message) → In (l ++ (x ∷ [])) s n → In l s n ⊎ ((x.sender ≡ s) × (x.sn ≡ n))
in_snoc l x h = elim (Memᴰ.append_cases l h.member) [
  | inl i ↦ inl (record { message = h.message; member = i; of_sender = h.of_sender; of_sn = h.of_sn })
  | inr i ↦ let e = Memᴰ.eq_of_singleton i in inr (sym (ap (λ (y : Message). y.sender) e) ∙ h.of_sender, sym (ap (λ (y : Message). y.sn) e) ∙ h.of_sn)
]

-- ---- the run of ones at the low end of k bits: all below it are set; where it is shorter than k, the bit at it is not
pub record Ones (k : ℕ) (w : Bits) (r : ℕ) : Type 0 where
  pub short : r ≤ k
  pub set : (i : ℕ) → i < r → w i ≡ true
  pub stops : r < k → w r ≡ false

pub ones_is : (k : ℕ) (w : Bits) → Ones k w (ones k w)
unfolding ones
ones_is zero w = record { short = omega arith; set = λ i h. absurd (omega arith); stops = λ h. absurd (omega arith) }
ones_is (suc k) w = either (w 0)
    (λ e. rw e (longer e (ones_is k (λ i. w (suc i)))))
    (λ e. rw e (record { short = omega arith; set = λ i h. absurd (omega arith); stops = λ h. e }))
  where
    longer : w 0 ≡ true → {r : ℕ} → Ones k (λ i. w (suc i)) r → Ones (suc k) w (suc r)
    longer e {r} o = record { short = let h = o.short in omega arith; set = at; stops = λ h. o.stops (omega arith) }
      where
        at : (i : ℕ) → i < suc r → w i ≡ true
        at zero h = e
        at (suc i) h = o.set i (omega arith)

-- ---- mark k and window w of sender s are those of the list of messages worked
pub record Side (k : ℕ) (w : Bits) (l : List Message) (s : ℕ) : Type 0 where
  pub below : (n : ℕ) → 1 ≤ n → n ≤ k → In l s n
  pub bits : (i : ℕ) → i < width → w i ≡ has l s (k + 1 + i)
  pub beyond : (i : ℕ) → width ≤ i → w i ≡ false
  pub within : (n : ℕ) → In l s n → n ≤ k + width
  pub next : has l s (k + 1) ≡ false
  pub positive : (n : ℕ) → In l s n → 1 ≤ n

-- the same of every sender: mark and windows of a memory are those of the list
pub record Marked (m : Memory) (l : List Message) : Type 0 where
  pub below : (s n : ℕ) → 1 ≤ n → n ≤ m.mark s → In l s n
  pub bits : (s i : ℕ) → i < width → m.window s i ≡ has l s (m.mark s + 1 + i)
  pub beyond : (s i : ℕ) → width ≤ i → m.window s i ≡ false
  pub within : (s n : ℕ) → In l s n → n ≤ m.mark s + width
  pub next : (s : ℕ) → has l s (m.mark s + 1) ≡ false
  pub positive : (s n : ℕ) → In l s n → 1 ≤ n

pub side : {m : Memory} {l : List Message} → Marked m l → (s : ℕ) → Side (m.mark s) (m.window s) l s
side h s = record {
  below = h.below s;
  bits = h.bits s;
  beyond = h.beyond s;
  within = h.within s;
  next = h.next s;
  positive = h.positive s;
}

pub sides : (m : Memory) {l : List Message} → ((s : ℕ) → Side (m.mark s) (m.window s) l s) → Marked m l
sides m h = record {
  below = λ s. (h s).below;
  bits = λ s. (h s).bits;
  beyond = λ s. (h s).beyond;
  within = λ s. (h s).within;
  next = λ s. (h s).next;
  positive = λ s. (h s).positive;
}

-- nothing worked
pub marked_blank : (m : Memory) → ((s : ℕ) → m.mark s ≡ 0) → ((s i : ℕ) → m.window s i ≡ false) → Marked m []
marked_blank m zero-mark no_bits =
    let none : (s n : ℕ) → In [] s n → ⊥ = λ s n h. Memᴰ.not-nil h.member in
    record {
      below = λ s n p q. let e = zero-mark s in absurd (omega arith);
      bits = λ s i h. no_bits s i ∙ sym (false_has [] s (m.mark s + 1 + i) (none s _));
      beyond = λ s i h. no_bits s i;
      within = λ s n h. absurd (none s n h);
      next = λ s. false_has [] s (m.mark s + 1) (none s _);
      positive = λ s n h. absurd (none s n h);
    }

-- only mark and windows count
pub marked_same : {m : Memory} {l : List Message} (k : Memory) → k.mark ≡ m.mark → k.window ≡ m.window → Marked m l → Marked k l
marked_same {l = l} k p q h = sides k (λ s. subst₂ (λ (a : ℕ) (w : Bits). Side a w l s) (sym (ap (λ f. f s) p)) (sym (ap (λ f. f s) q)) (side h s))

-- the mark rises by the run of ones, and the window slides
slide : {k r : ℕ} {w : Bits} {l : List Message} {s : ℕ} → Ones width w r → ((n : ℕ) → 1 ≤ n → n ≤ k → In l s n)
    → ((i : ℕ) → i < width → w i ≡ has l s (k + 1 + i)) → ((i : ℕ) → width ≤ i → w i ≡ false)
    → ((n : ℕ) → In l s n → n ≤ k + width) → ((n : ℕ) → In l s n → 1 ≤ n) → Side (k + r) (λ i. w (r + i)) l s
slide {k} {r} {w} {l} {s} run low bit out in_reach pos = record {
  below = λ n p q. elim (lt? k n) [
    | inl a ↦
        let i : n - k - 1 < r = omega arith in
        let short = run.short in
        let e : k + 1 + (n - k - 1) ≡ n = omega arith in
        has_true l s n (sym (ap (has l s) e) ∙ sym (bit (n - k - 1) (omega arith)) ∙ run.set (n - k - 1) i)
    | inr a ↦ low n p a
  ];
  bits = λ i h. elim (lt? (r + i) width) [
    | inl a ↦ let e : k + 1 + (r + i) ≡ k + r + 1 + i = omega arith in bit (r + i) a ∙ ap (has l s) e
    | inr a ↦ out (r + i) a ∙ sym (above (k + r + 1 + i) (omega arith))
  ];
  beyond = λ i h. out (r + i) (omega arith);
  within = λ n h. let q = in_reach n h in omega arith;
  next = elim (lt? r width) [
    | inl a ↦ let e : k + 1 + r ≡ k + r + 1 = omega arith in sym (ap (has l s) e) ∙ sym (bit r a) ∙ run.stops a
    | inr a ↦ above (k + r + 1) (omega arith)
  ];
  positive = pos;
}
  where
    above : (n : ℕ) → k + width < n → has l s n ≡ false
    above n h = false_has l s n (λ i. let q = in_reach n i in omega arith)

-- one more message worked
side_work : {k : ℕ} {w : Bits} {l : List Message} (x : Message) → Side k w l x.sender → 1 ≤ x.sn → has l x.sender x.sn ≡ false
    → x.sn ≤ k + width → Side (risen_mark k w x.sn) (slid_window k w x.sn) (l ++ (x ∷ [])) x.sender
unfolding risen_mark slid_window rise bit_set
side_work {k} {w} {l} x h pos new near =
    let above : k < x.sn = elim (lt? k x.sn) [ inl a ↦ a | inr a ↦ absurd (has_false new (h.below x.sn pos a)) ] in
    let e : k + 1 + (x.sn - k - 1) ≡ x.sn = omega arith in
    rw (is_opened k w x.sn above near (h.bits (x.sn - k - 1) (omega arith) ∙ ap (has l x.sender) e ∙ new)) (slide
    (ones_is width _)
    (λ n p q. in_append _ (h.below n p q))
    (upd_ind (λ i v. i < width → v ≡ has (l ++ (x ∷ [])) x.sender (k + 1 + i)) (x.sn - k - 1) true w
    (λ _. sym (ap (has _ _) e ∙ true_has (in_last l x)))
    (λ i d b. h.bits i b ∙ has_same l (l ++ (x ∷ [])) x.sender (k + 1 + i) (in_append _)
    (λ j. elim (in_snoc l x j) [ inl q ↦ q | inr q ↦ let e = q.1 in absurd (d (omega arith)) ])))
    (λ i b. upd_other _ _ _ i (λ (e : i ≡ x.sn - k - 1). omega arith) ∙ h.beyond i b)
    (λ n j. elim (in_snoc l x j) [ inl q ↦ h.within n q | inr q ↦ let e = q.1 in omega arith ])
    (λ n j. elim (in_snoc l x j) [ inl q ↦ h.positive n q | inr q ↦ let e = q.1 in omega arith ]))

side_other : {k : ℕ} {w : Bits} {l : List Message} {s : ℕ} (x : Message) → x.sender ≢ s → Side k w l s → Side k w (l ++ (x ∷ [])) s
side_other {k} {w} {l} {s} x d h = record {
  below = λ n p q. in_append _ (h.below n p q);
  bits = λ i b. h.bits i b ∙ same (k + 1 + i);
  beyond = h.beyond;
  within = λ n j. h.within n (old j);
  next = sym (same (k + 1)) ∙ h.next;
  positive = λ n j. h.positive n (old j);
}
  where
    old : {n : ℕ} → In (l ++ (x ∷ [])) s n → In l s n
    old j = elim (in_snoc l x j) [ inl q ↦ q | inr q ↦ absurd (d q.0) ]

    same : (n : ℕ) → has l s n ≡ has (l ++ (x ∷ [])) s n
    same n = has_same l _ s n (in_append _) old

pub marked_work : {m : Memory} {l : List Message} → Marked m l → (c : ℕ) (e : Entry) → 1 ≤ e.sn → has l e.sender e.sn ≡ false
    → e.sn ≤ m.mark e.sender + width → Marked (work_entry m e) (l ++ (message_of c e ∷ []))
unfolding work_entry message_of
marked_work {m} {l} h c e pos new near = sides (work_entry m e)
    (upd_ind₂ (λ s k w. Side k w (l ++ (message_of c e ∷ [])) s) e.sender _ _ m.mark m.window
    (side_work (message_of c e) (side h e.sender) pos new near)
    (λ s d. side_other (message_of c e) (λ q. d (sym q)) (side h s)))

-- ---- the test "worked" is being in the list
pub worked_in : {m : Memory} {l : List Message} {s n : ℕ} → Marked m l → 1 ≤ n → is_worked m s n ≡ true → In l s n
unfolding is_worked
worked_in {m} {l} {s} {n} h pos e = elim (lt? (m.mark s) n) [
  | inl a ↦
      let b = worked_near (m.mark s) (m.window s) n a e in
      let q : m.mark s + 1 + (n - m.mark s - 1) ≡ n = omega arith in
      has_true l s n (sym (ap (has l s) q) ∙ sym (h.bits s (n - m.mark s - 1) (omega arith)) ∙ sym (worked_bit (m.mark s) (m.window s) n a b) ∙ e)
  | inr a ↦ h.below s n pos a
]

pub in_worked : {m : Memory} {l : List Message} {s n : ℕ} → Marked m l → In l s n → is_worked m s n ≡ true
unfolding is_worked worked
in_worked {m} {l} {s} {n} h i = elim (lt? (m.mark s) n) [
  | inl a ↦
      let b = h.within s n i in
      let q : m.mark s + 1 + (n - m.mark s - 1) ≡ n = omega arith in
      worked_bit (m.mark s) (m.window s) n a b ∙ h.bits s (n - m.mark s - 1) (omega arith) ∙ ap (has l s) q ∙ true_has i
  | inr a ↦ ap worked (look_low (m.mark s) (m.window s) n a)
]

-- ---- SN n of s is at most the width of the window above a number up to which all are in the list
pub record Reach (l : List Message) (s n : ℕ) : Type 0 where
  pub upto : ℕ
  pub all : (i : ℕ) → 1 ≤ i → i ≤ upto → In l s i
  pub near : n ≤ upto + width

pub reach_mono : {l k : List Message} {s n : ℕ} → Prefix l k → Reach l s n → Reach k s n
reach_mono p r = record { upto = r.upto; all = λ i a b. in_mono p (r.all i a b); near = r.near }

pub admitted_reach : {m : Memory} {l : List Message} (s : ℕ) {n : ℕ} → Marked m l → n ≤ m.mark s + width → Reach l s n
admitted_reach {m} s h near = record { upto = m.mark s; all = h.below s; near = near }

pub reach_admitted : {m : Memory} {l : List Message} {s n : ℕ} → Marked m l → Reach l s n → n ≤ m.mark s + width
reach_admitted {m} {l} {s} {n} h r = elim (lt? (m.mark s) r.upto) [
  | inl a ↦ absurd (has_false (h.next s) (r.all (m.mark s + 1) (omega arith) (omega arith)))
  | inr a ↦ let near = r.near in omega arith
]
