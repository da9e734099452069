-- What a send changes in a run, and that the run stays consistent.
use Rattle.std.specs.Prelude.{◌≡◌, ◌≢◌, ◌⊎◌, ℕ, ◌+◌, ◌≤◌}
use Rattle.std.proofs.Math.Path.{refl, sym, ap, subst⁻¹}
use Rattle.std.proofs.Common.{◌∙◌, subst}
use Rattle.std.proofs.Math.Logic.{inl, inr}
use mathlib.Core.List.Memᴰ
use mathlib.Core.List.Memᴰ.{head as here}
use mathlib.Core.List.Memᴰ.{tail as there}
use mathlib.Core.List.{List, [], ◌∷◌}
use Rattle.std.proofs.Math.Option.{some}
use native.Mathlib.Omega.{arith}
use Rattle.lists.specs.Tests.{eq?}
use Rattle.lists.specs.Map.{upd, upd_same, upd_other, upd_upd, upd_ind, upd_ind₂}
use Rattle.lists.specs.Lists.{◌∈◌, All, all_snoc}
use Rattle.protocol.specs.declared.Message.{Message}
use Rattle.protocol.specs.CrashFree.{Run, run_send, run_send_all}
use Rattle.protocol.proofs.Recovery.Laws.Options.{some_inj}
use Rattle.protocol.proofs.Recovery.Run.Fold.{Local, local_next, local_send, local_send_all, prefix_mem, send_all_grows}
use Rattle.protocol.proofs.Recovery.Run.Nested.{upd2_ind, upd3_ind, upd3_same, upd3_other}
use Rattle.protocol.proofs.Recovery.Run.Facts.{Sent, run_next, Consistent, sent_old, worked_sent, consistent_same}

module _ (x : Run) (s r value hops : ℕ) where
  pub send_worked : (run_send x s r value hops).worked ≡ x.worked
  unfolding run_send
  send_worked = refl

  pub send_sn_same : (run_send x s r value hops).sn s ≡ upd r (x.sn s r + 1) (x.sn s)
  unfolding run_send
  send_sn_same = upd_same s _ x.sn

  pub send_sn_other : (a : ℕ) → a ≢ s → (run_send x s r value hops).sn a ≡ x.sn a
  unfolding run_send
  send_sn_other a h = upd_other s _ x.sn a h

  -- the new message is sent
  pub send_sends : Sent (run_send x s r value hops) (run_next x s r value hops)
  unfolding run_send
  send_sends = inl (upd3_same s r _ _ x.unworked)

  -- and nothing else is
  pub sent_before : (m : Message) → Sent (run_send x s r value hops) m → Sent x m ⊎ (m ≡ run_next x s r value hops)
  unfolding run_send
  sent_before m (inl e) =
      upd3_ind (λ a b k u. u ≡ some m → ((x.unworked a b k ≡ some m) ⊎ (m ∈ x.worked m.receiver)) ⊎ (m ≡ run_next x s r value hops)) s r _ _ x.unworked
      (λ q. inr (some_inj q refl)) (λ a b k _ q. inl (inl q))
      m.sender m.receiver m.sn e
  sent_before m (inr i) = inl (inr i)

module _ {made : ℕ → Local} {x : Run} (ok : Consistent made x) (s r value hops : ℕ) where
  -- what was sent stays sent
  pub sent_after : (m : Message) → Sent x m → Sent (run_send x s r value hops) m
  unfolding run_send
  sent_after m (inl e) = inl (upd3_other s r _ _ x.unworked _ _ _ (sent_old ok s r m (inl e)) ∙ e)
  sent_after m (inr i) = inr i

  -- the new key is a new one
  new_old : (m : Message) → Sent x m → (n : Message) → n ≡ run_next x s r value hops → m.sender ≡ n.sender → m.receiver ≡ n.receiver → m.sn ≡ n.sn → ⊥
  new_old m i n e p q k = sent_old ok s r m i (p ∙ ap (λ y. y.sender) e, q ∙ ap (λ y. y.receiver) e, k ∙ ap (λ y. y.sn) e)

  pub send_sn_grows : (a b : ℕ) → x.sn a b ≤ (run_send x s r value hops).sn a b
  unfolding run_send
  send_sn_grows = upd2_ind (λ a b n. x.sn a b ≤ n) s r _ x.sn (omega arith) (λ a b _. omega arith)

  send_one_body : (m m' : Message) → Sent (run_send x s r value hops) m → Sent (run_send x s r value hops) m'
      → m.sender ≡ m'.sender → m.receiver ≡ m'.receiver → m.sn ≡ m'.sn → m ≡ m'
  send_one_body m m' i i' p q k =
      elim (sent_before x s r value hops m i) [
        | inl h ↦ elim (sent_before x s r value hops m' i') [ inl h' ↦ ok.one_body m m' h h' p q k | inr e' ↦ absurd (new_old m h m' e' p q k) ]
        | inr e ↦ elim (sent_before x s r value hops m' i') [ inl h' ↦ absurd (new_old m' h' m e (sym p) (sym q) (sym k)) | inr e' ↦ e ∙ sym e' ]
      ]

  send_all_sent : (a b n : ℕ) → 1 ≤ n → n ≤ (run_send x s r value hops).sn a b
      → (m : Message) × Sent (run_send x s r value hops) m × (m.sender ≡ a) × (m.receiver ≡ b) × (m.sn ≡ n)
  unfolding run_send
  send_all_sent a b n low high =
      upd2_ind (λ a b k. n ≤ k → (m : Message) × Sent (run_send x s r value hops) m × (m.sender ≡ a) × (m.receiver ≡ b) × (m.sn ≡ n)) s r _ x.sn
      (λ h. elim (eq? n (x.sn s r + 1)) [ inl e ↦ (run_next x s r value hops, send_sends x s r value hops, refl, refl, sym e) | inr e ↦ old s r (omega arith) ])
      (λ a b _ h. old a b h)
      a b high
    where
      old : (a b : ℕ) → n ≤ x.sn a b → (m : Message) × Sent (run_send x s r value hops) m × (m.sender ≡ a) × (m.receiver ≡ b) × (m.sn ≡ n)
      old a b h = let (m, i, p, q, k) = ok.all_sent a b n low h in (m, sent_after m i, p, q, k)

  -- the chare's next message is the run's
  next_same : s ≢ 0 → run_next x s r value hops ≡ local_next s (made s) r value hops
  next_same e i = record { sender = s; receiver = r; sn = ok.counts s e i r + 1; value = value; hops = hops }

  send_bounds : r ≢ 0 → (m : Message) → m ≡ run_next x s r value hops
      → (1 ≤ m.sn) × (m.sn ≤ (run_send x s r value hops).sn m.sender m.receiver) × (m.receiver ≢ 0)
  unfolding run_send
  send_bounds port m e =
      subst⁻¹ (λ m. (1 ≤ m.sn) × (m.sn ≤ upd s (upd r (x.sn s r + 1) (x.sn s)) x.sn m.sender m.receiver) × (m.receiver ≢ 0)) e
      (omega arith, rw (upd_same, upd_same) (omega arith), port)

  send_consistent : r ≢ 0 → Consistent (upd s (local_send s (made s) r value hops) made) (run_send x s r value hops)
  unfolding run_send local_send
  send_consistent port = record {
    states = upd_ind (λ c l. c ≢ 0 → x.state c ≡ l.state) s _ made (ok.states s) (λ c _. ok.states c);
    counts = upd_ind₂ (λ c n l. c ≢ 0 → n ≡ l.sn) s _ _ x.sn made (λ e. ap (λ f. upd r (f r + 1) f) (ok.counts s e)) (λ c _. ok.counts c);
    outs = upd_ind (λ c l. c ≢ 0 → All (Sent (run_send x s r value hops)) l.out) s _ made
        (λ e. all_snoc (made s).out (λ m i. sent_after m (ok.outs s e m i)) (subst (Sent (run_send x s r value hops)) (next_same e) (send_sends x s r value hops)))
        (λ c _ e m i. sent_after m (ok.outs c e m i));
    named = upd3_ind (λ a b n u. (m : Message) → u ≡ some m → (m.sender ≡ a) × (m.receiver ≡ b) × (m.sn ≡ n)) s r _ _ x.unworked
        (λ m e. let q = some_inj e refl in (ap (λ y. y.sender) q, ap (λ y. y.receiver) q, ap (λ y. y.sn) q)) (λ a b n _. ok.named a b n);
    to = ok.to;
    bounds = λ m i. elim (sent_before x s r value hops m i) [
      | inl h ↦ let (p, q, k) = ok.bounds m h in let g = send_sn_grows m.sender m.receiver in (p, omega arith, k)
      | inr e ↦ send_bounds port m e
    ];
    one_body = send_one_body;
    all_sent = send_all_sent;
    distinct = ok.distinct;
    worked_once = λ b m i. upd3_other s r _ _ x.unworked _ _ _ (λ e. sent_old ok s r m (worked_sent ok b m i) (e.0, ok.to b m i ∙ e.1, e.2)) ∙ ok.worked_once b m i;
  }

-- ---- the desk sends: no chare makes anything
pub desk_consistent : {made : ℕ → Local} {x : Run} → Consistent made x → (r value hops : ℕ) → r ≢ 0 → Consistent made (run_send x 0 r value hops)
desk_consistent {made} ok r value hops port =
    consistent_same (send_consistent ok 0 r value hops port) made (λ c e. upd_other 0 _ made c e)

-- ---- a message to each of some receivers
module _ (s value hops : ℕ) where
  pub send_all_worked : (x : Run) (l : List ℕ) → (run_send_all x s l value hops).worked ≡ x.worked
  unfolding run_send_all run_send
  send_all_worked x [] = refl
  send_all_worked x (r ∷ l) = send_all_worked (run_send x s r value hops) l

  pub send_all_sn_other : (x : Run) (l : List ℕ) (a : ℕ) → a ≢ s → (run_send_all x s l value hops).sn a ≡ x.sn a
  unfolding run_send_all
  send_all_sn_other x [] a h = refl
  send_all_sn_other x (r ∷ l) a h = send_all_sn_other (run_send x s r value hops) l a h ∙ send_sn_other x s r value hops a h

  -- one step of a chare that has made d
  send_step : (made : ℕ → Local) (x : Run) (d : Local) (r : ℕ) → r ≢ 0 → Consistent (upd s d made) x → Consistent (upd s (local_send s d r value hops) made) (run_send x s r value hops)
  send_step made x d r port ok =
      subst (λ f. Consistent f (run_send x s r value hops))
      (upd_upd s _ d made ∙ ap (λ e. upd s (local_send s e r value hops) made) (upd_same s d made))
      (send_consistent ok s r value hops port)

  pub send_all_consistent : (made : ℕ → Local) (x : Run) (d : Local) (l : List ℕ) → All (λ r. r ≢ 0) l → Consistent (upd s d made) x
      → Consistent (upd s (local_send_all s d l value hops) made) (run_send_all x s l value hops)
  unfolding run_send_all local_send_all
  send_all_consistent made x d [] ports ok = ok
  send_all_consistent made x d (r ∷ l) ports ok =
      send_all_consistent made (run_send x s r value hops) (local_send s d r value hops) l (λ b i. ports b (there i)) (send_step made x d r (ports r (here refl)) ok)

  pub sent_after_all : (made : ℕ → Local) (x : Run) (l : List ℕ) → All (λ r. r ≢ 0) l → Consistent made x → (m : Message) → Sent x m → Sent (run_send_all x s l value hops) m
  unfolding run_send_all
  sent_after_all made x [] ports ok m i = i
  sent_after_all made x (r ∷ l) ports ok m i =
      sent_after_all (upd s (local_send s (made s) r value hops) made) (run_send x s r value hops) l (λ b i. ports b (there i)) (send_consistent ok s r value hops (ports r (here refl))) m (sent_after ok s r value hops m i)

  -- what is newly sent stands in the outbox
  pub sent_before_all : s ≢ 0 → (made : ℕ → Local) (x : Run) (d : Local) (l : List ℕ) → All (λ r. r ≢ 0) l → Consistent (upd s d made) x
      → (m : Message) → Sent (run_send_all x s l value hops) m → Sent x m ⊎ (m ∈ (local_send_all s d l value hops).out)
  unfolding run_send_all local_send_all local_send
  sent_before_all chare made x d [] ports ok m i = inl i
  sent_before_all chare made x d (r ∷ l) ports ok m i =
      elim (sent_before_all chare made (run_send x s r value hops) (local_send s d r value hops) l (λ b i. ports b (there i)) (send_step made x d r (ports r (here refl)) ok) m i) [
        | inl h ↦ elim (sent_before x s r value hops m h) [
          | inl k ↦ inl k
          | inr e ↦ inr (prefix_mem (send_all_grows s (local_send s d r value hops) l value hops).out (Memᴰ.append_right d.out (here (e ∙ next_same ok s r value hops chare ∙ ap (λ y. local_next s y r value hops) (upd_same s d made)))))
        ]
        | inr k ↦ inr k
      ]
