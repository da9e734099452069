-- What holds of every crash-free run: what a chare has and sent is the fold of what it worked; a key (sender, receiver, SN) is sent
-- once, with one body; what is unworked is what is sent and not worked.
use Rattle.std.specs.Prelude.{◌≡◌, refl, ◌≢◌, ◌⊎◌, List, ℕ, ◌+◌, ◌≤◌}
use Rattle.std.proofs.Common.{sym, ap, ◌∙◌, subst, subst₂, inl, inr, arith}
use Rattle.std.proofs.Math.Path.{subst₃}
use mathlib.Core.List.Memᴰ
use Rattle.std.proofs.Math.Option.{some, none}
use Rattle.lists.specs.Lists.{◌∈◌, All, all_nil, Prefix}
use Rattle.lists.specs.Keys.{NoDup, nodup_nil}
use Rattle.protocol.specs.declared.Message.{Message}
use Rattle.protocol.specs.Parts.{Job}
use Rattle.protocol.specs.CrashFree.{Run, run_start}
use Rattle.protocol.proofs.Recovery.Laws.Options.{some_none}
use Rattle.protocol.proofs.Recovery.Run.Fold.{Local, local_start, folded, folded_nil, prefix_mem, out_prefix}

-- m has been sent in the run: it is unworked, or its receiver has worked it
abbrev pub Sent : Run → Message → Type 0
Sent x m = (x.unworked m.sender m.receiver m.sn ≡ some m) ⊎ (m ∈ x.worked m.receiver)

-- what tells one message from another at its receiver
abbrev pub message_key : Message → ℕ × ℕ
message_key m = (m.sender, m.sn)

-- the message that the next send adds
abbrev pub run_next : Run → ℕ → ℕ → ℕ → ℕ → Message
run_next x s r value hops = record { sender = s; receiver = r; sn = x.sn s r + 1; value = value; hops = hops }

-- The run x stands where each chare has made `made`, also in the midst of a work. The desk, 0, works nothing, and makes nothing of it.
pub record Consistent (made : ℕ → Local) (x : Run) : Type 0 where
  pub states : (c : ℕ) → c ≢ 0 → x.state c ≡ (made c).state
  pub counts : (c : ℕ) → c ≢ 0 → x.sn c ≡ (made c).sn
  pub outs : (c : ℕ) → c ≢ 0 → All (Sent x) (made c).out
  pub named : (a r n : ℕ) (m : Message) → x.unworked a r n ≡ some m → (m.sender ≡ a) × (m.receiver ≡ r) × (m.sn ≡ n)
  pub to : (r : ℕ) → All (λ m. m.receiver ≡ r) (x.worked r)
  pub bounds : (m : Message) → Sent x m → (1 ≤ m.sn) × (m.sn ≤ x.sn m.sender m.receiver) × (m.receiver ≢ 0)
  pub one_body : (m m' : Message) → Sent x m → Sent x m' → m.sender ≡ m'.sender → m.receiver ≡ m'.receiver → m.sn ≡ m'.sn → m ≡ m'
  pub all_sent : (a r n : ℕ) → 1 ≤ n → n ≤ x.sn a r → (m : Message) × Sent x m × (m.sender ≡ a) × (m.receiver ≡ r) × (m.sn ≡ n)
  pub distinct : (r : ℕ) → NoDup message_key (x.worked r)
  pub worked_once : (r : ℕ) (m : Message) → m ∈ x.worked r → x.unworked m.sender r m.sn ≡ none

-- at the end of a work each chare has made what the fold of its worked messages says
abbrev pub RunOk : Job → Run → Type 0
RunOk j x = Consistent (λ c. folded j c (x.worked c)) x

start_empty {κ} : {X : Type κ} (m : Message) → Sent run_start m → X
unfolding run_start
start_empty m (inl e) = some_none e refl
start_empty m (inr i) = absurd (Memᴰ.not-nil i)

pub ok_start : (j : Job) → RunOk j run_start
unfolding run_start local_start
ok_start j = record {
  states = λ c _. sym (ap (λ l. l.state) (folded_nil j c));
  counts = λ c _. sym (ap (λ l. l.sn) (folded_nil j c));
  outs = λ c _. subst (λ l. All (Sent run_start) l.out) (sym (folded_nil j c)) (all_nil _);
  named = λ a r n m e. some_none e refl;
  to = λ r. all_nil _;
  bounds = λ m i. start_empty m i;
  one_body = λ m m' i. start_empty m i;
  all_sent = λ a r n p q. absurd (omega arith);
  distinct = λ r. nodup_nil message_key;
  worked_once = λ r m i. refl;
}

module _ {made : ℕ → Local} {x : Run} (ok : Consistent made x) where
  -- an unworked message is sent
  pub unworked_sent : (a r n : ℕ) (m : Message) → x.unworked a r n ≡ some m → Sent x m
  unworked_sent a r n m e =
      let (p, q, s) = ok.named a r n m e in
      inl (subst₃ (λ a r n. x.unworked a r n ≡ some m) (sym p) (sym q) (sym s) e)

  pub worked_sent : (r : ℕ) (m : Message) → m ∈ x.worked r → Sent x m
  worked_sent r m i = inr (subst (λ b. m ∈ x.worked b) (sym (ok.to r m i)) i)

  -- what is sent has an SN up to the count
  pub sent_below : (a r : ℕ) (m : Message) → Sent x m → m.sender ≡ a → m.receiver ≡ r → m.sn ≤ x.sn a r
  sent_below a r m i p q = subst₂ (λ a r. m.sn ≤ x.sn a r) p q (ok.bounds m i).1

  -- the next key has not been sent
  pub sent_old : (a r : ℕ) (m : Message) → Sent x m → ¬ ((m.sender ≡ a) × (m.receiver ≡ r) × (m.sn ≡ x.sn a r + 1))
  sent_old a r m i e = let h = sent_below a r m i e.0 e.1 in let k = e.2 in omega arith

  -- an unworked key is none of the worked ones'
  pub unworked_new : (a r n : ℕ) (m : Message) → x.unworked a r n ≡ some m → All (λ y. message_key y ≢ (a, n)) (x.worked r)
  unworked_new a r n m e y i q =
      some_none (subst₂ (λ a n. x.unworked a r n ≡ some m) (sym (ap (λ k. k.0) q)) (sym (ap (λ k. k.1) q)) e) (ok.worked_once r y i)

  -- sent, and its key is not worked: unworked
  pub sent_unworked : (m : Message) → Sent x m → All (λ y. message_key y ≢ message_key m) (x.worked m.receiver)
      → x.unworked m.sender m.receiver m.sn ≡ some m
  sent_unworked m (inl e) h = e
  sent_unworked m (inr i) h = absurd (h m i refl)

  -- the same run, seen as one of other makings that are equal at each chare
  pub consistent_same : (made' : ℕ → Local) → ((c : ℕ) → c ≢ 0 → made c ≡ made' c) → Consistent made' x
  consistent_same made' h = record {
    states = λ c e. ok.states c e ∙ ap (λ l. l.state) (h c e);
    counts = λ c e. ok.counts c e ∙ ap (λ l. l.sn) (h c e);
    outs = λ c e. subst (λ l. All (Sent x) l.out) (h c e) (ok.outs c e);
    named = ok.named;
    to = ok.to;
    bounds = ok.bounds;
    one_body = ok.one_body;
    all_sent = ok.all_sent;
    distinct = ok.distinct;
    worked_once = ok.worked_once;
  }

-- what a chare makes of a beginning of what it worked is within what it made of the whole
module _ (j : Job) {x : Run} (ok : RunOk j x) (c : ℕ) (chare : c ≢ 0) {l : List Message} (p : Prefix l (x.worked c)) where
  pub prefix_sent : All (Sent x) (folded j c l).out
  prefix_sent m i = ok.outs c chare m (prefix_mem (out_prefix j c p) i)
