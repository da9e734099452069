-- What a work changes in a run, and that the run stays consistent.
use Rattle.std.specs.Prelude.{◌≡◌, refl, ◌≢◌, ◌⊎◌, [], ◌∷◌, ◌++◌, ℕ, ◌-◌}
use Rattle.std.proofs.Math.Path.{sym, ap, subst, subst₃}
use Rattle.std.proofs.Common.{◌∙◌}
use Rattle.std.proofs.Math.Logic.{inl, inr}
use mathlib.Core.List.Memᴰ
use mathlib.Core.List.Memᴰ.{head as here}
use Rattle.std.proofs.Math.Option.{some, none}
use Rattle.lists.specs.Map.{upd, upd_same, upd_ind, upd_ind₂}
use Rattle.lists.specs.Lists.{◌∈◌, All, all_snoc}
use Rattle.lists.specs.Keys.{NoDup, nodup_snoc}
use Rattle.protocol.specs.declared.Message.{Message}
use Rattle.protocol.specs.Parts.{Job}
use Rattle.protocol.specs.Work.{work, receivers, sent_value, ports}
use Rattle.protocol.specs.CrashFree.{Run, Work, upd3, run_take, run_work}
use Rattle.protocol.proofs.Recovery.Laws.Options.{some_none, some_inj}
use Rattle.protocol.proofs.Recovery.Run.Fold.{Local, local_take, local_send_all, local_work, folded, folded_snoc, receivers_chares}
use Rattle.protocol.proofs.Recovery.Run.Nested.{upd3_ind, upd3_same}
use Rattle.protocol.proofs.Recovery.Run.Facts.{Sent, message_key, Consistent, RunOk, unworked_sent, unworked_new, consistent_same}
use Rattle.protocol.proofs.Recovery.Run.Send.{send_all_worked, send_all_sn_other, send_all_consistent, sent_after_all, sent_before_all}

-- ---- the message is taken out and put at the end of its receiver's
module _ {made : ℕ → Local} {x : Run} (ok : Consistent made x) (w : Work) (m : Message) (found : x.unworked w.sender w.receiver w.sn ≡ some m) where
  -- the message that a work finds has been sent, to a chare
  pub found_sent : Sent x m
  found_sent = unworked_sent ok _ _ _ m found

  pub found_receiver : m.receiver ≡ w.receiver
  found_receiver = (ok.named _ _ _ m found).1

  pub found_key : message_key m ≡ (w.sender, w.sn)
  found_key i = let (p, _, q) = ok.named _ _ _ m found in (p i, q i)

  pub found_chare : w.receiver ≢ 0
  found_chare e = (ok.bounds m found_sent).2 (found_receiver ∙ e)

  pub taken : m ∈ (run_take x w m).worked m.receiver
  unfolding run_take
  taken = subst (λ r. m ∈ upd w.receiver (x.worked w.receiver ++ (m ∷ [])) x.worked r) (sym found_receiver)
      (subst (m ∈◌) (sym (upd_same w.receiver _ x.worked)) (Memᴰ.append_right (x.worked w.receiver) (here refl)))

  pub worked_stays : (y : Message) (r : ℕ) → y ∈ x.worked r → y ∈ (run_take x w m).worked r
  unfolding run_take
  worked_stays y = upd_ind (λ r l. y ∈ x.worked r → y ∈ l) w.receiver _ x.worked (Memᴰ.append_left _) (λ r _ i. i)

  -- one of those worked is an earlier one or the one taken
  taken_cases : (r : ℕ) → All (λ y. (y ∈ x.worked r) ⊎ ((y ≡ m) × (r ≡ w.receiver))) ((run_take x w m).worked r)
  unfolding run_take
  taken_cases = upd_ind (λ r l. All (λ y. (y ∈ x.worked r) ⊎ ((y ≡ m) × (r ≡ w.receiver))) l) w.receiver _ x.worked
      (all_snoc (x.worked w.receiver) (λ _ j. inl j) (inr (refl, refl))) (λ r _ _ j. inl j)

  sent_kept : (y : Message) → Sent x y → Sent (run_take x w m) y
  unfolding run_take
  sent_kept y (inl e) =
      upd3_ind (λ a r n u. x.unworked a r n ≡ some y → (u ≡ some y) ⊎ (y ∈ (run_take x w m).worked y.receiver)) w.sender w.receiver w.sn none x.unworked
      (λ q. inr (subst (λ z. z ∈ (run_take x w m).worked z.receiver) (some_inj found q) taken)) (λ a r n _ q. inl q)
      y.sender y.receiver y.sn e
  sent_kept y (inr i) = inr (worked_stays y y.receiver i)

  sent_back : (y : Message) → Sent (run_take x w m) y → Sent x y
  unfolding run_take
  sent_back y (inl e) = inl (upd3_ind (λ a r n u. u ≡ some y → x.unworked a r n ≡ some y) w.sender w.receiver w.sn none x.unworked
      (λ q. some_none q refl) (λ a r n _ q. q) y.sender y.receiver y.sn e)
  sent_back y (inr i) = elim (taken_cases y.receiver y i) [ inl j ↦ inr j | inr (e, _) ↦ subst (Sent x) (sym e) found_sent ]

  none_stays : (a r n : ℕ) → x.unworked a r n ≡ none → (run_take x w m).unworked a r n ≡ none
  unfolding run_take
  none_stays = upd3_ind (λ a r n u. x.unworked a r n ≡ none → u ≡ none) w.sender w.receiver w.sn none x.unworked (λ _. refl) (λ a r n _ q. q)

  taken_once : (y : Message) (r : ℕ) → y ≡ m → r ≡ w.receiver → (run_take x w m).unworked y.sender r y.sn ≡ none
  unfolding run_take
  taken_once y r e q =
      let k = ap message_key e ∙ found_key in
      subst₃ (λ a r n. upd3 w.sender w.receiver w.sn none x.unworked a r n ≡ none) (sym (ap (λ h. h.0) k)) (sym q) (sym (ap (λ h. h.1) k))
      (upd3_same w.sender w.receiver w.sn none x.unworked)

  take_consistent : Consistent (upd w.receiver (local_take (made w.receiver) m) made) (run_take x w m)
  unfolding run_take
  take_consistent = record {
    states = upd_ind₂ (λ c v l. c ≢ 0 → v ≡ l.state) w.receiver _ _ x.state made (λ e. ap (λ v. work v m.value) (ok.states w.receiver e)) (λ c _. ok.states c);
    counts = upd_ind (λ c l. c ≢ 0 → x.sn c ≡ l.sn) w.receiver _ made (ok.counts w.receiver) (λ c _. ok.counts c);
    outs = upd_ind (λ c l. c ≢ 0 → All (Sent (run_take x w m)) l.out) w.receiver _ made
        (λ e y i. sent_kept y (ok.outs w.receiver e y i)) (λ c _ e y i. sent_kept y (ok.outs c e y i));
    named = upd3_ind (λ a r n u. (y : Message) → u ≡ some y → (y.sender ≡ a) × (y.receiver ≡ r) × (y.sn ≡ n)) w.sender w.receiver w.sn none x.unworked
        (λ y e. some_none e refl) (λ a r n _. ok.named a r n);
    to = upd_ind (λ r l. All (λ y. y.receiver ≡ r) l) w.receiver _ x.worked (all_snoc (x.worked w.receiver) (ok.to w.receiver) found_receiver) (λ r _. ok.to r);
    bounds = λ y i. ok.bounds y (sent_back y i);
    one_body = λ y z i k. ok.one_body y z (sent_back y i) (sent_back z k);
    all_sent = λ a r n low high. let (y, i, p, q, k) = ok.all_sent a r n low high in (y, sent_kept y i, p, q, k);
    distinct = upd_ind (λ r l. NoDup message_key l) w.receiver _ x.worked
        (nodup_snoc message_key (x.worked w.receiver) m (ok.distinct w.receiver) (λ y i q. unworked_new ok _ _ _ m found y i (q ∙ found_key))) (λ r _. ok.distinct r);
    worked_once = λ r y i. elim (taken_cases r y i) [ inl j ↦ none_stays _ _ _ (ok.worked_once r y j) | inr (e, q) ↦ taken_once y r e q ];
  }

-- ---- a work: what is taken is worked, and its sends follow
module _ (j : Job) (x : Run) (w : Work) (m : Message) where
  pub work_worked : (run_work (ports j) x w m).worked ≡ upd w.receiver (x.worked w.receiver ++ (m ∷ [])) x.worked
  unfolding run_work run_take
  work_worked = send_all_worked w.receiver _ _ (run_take x w m) _

  pub work_sn_other : (a : ℕ) → a ≢ w.receiver → (run_work (ports j) x w m).sn a ≡ x.sn a
  unfolding run_work run_take
  work_sn_other a h = send_all_sn_other w.receiver _ _ (run_take x w m) _ a h

module _ (j : Job) (x : Run) (ok : RunOk j x) (w : Work) (m : Message) (found : x.unworked w.sender w.receiver w.sn ≡ some m) where
  -- what the receiver makes of the message is what the fold of the longer list has
  made_more : local_send_all w.receiver (local_take (folded j w.receiver (x.worked w.receiver)) m) (receivers (ports j) w.receiver m.hops) (sent_value ((run_take x w m).state w.receiver)) (m.hops - 1)
      ≡ folded j w.receiver (x.worked w.receiver ++ (m ∷ []))
  unfolding local_work
  made_more =
      let e = (take_consistent ok w m found).states w.receiver (found_chare ok w m found) ∙ ap (λ l. l.state) (upd_same w.receiver _ (λ c. folded j c (x.worked c))) in
      ap (λ v. local_send_all w.receiver (local_take (folded j w.receiver (x.worked w.receiver)) m) (receivers (ports j) w.receiver m.hops) (sent_value v) (m.hops - 1)) e
      ∙ sym (folded_snoc j w.receiver (x.worked w.receiver) m)

  pub work_ok : RunOk j (run_work (ports j) x w m)
  unfolding run_work
  work_ok = consistent_same
      (send_all_consistent w.receiver _ _ _ (run_take x w m) _ (receivers (ports j) w.receiver m.hops) (receivers_chares j w.receiver m.hops) (take_consistent ok w m found))
      _
      (λ c _. upd_ind₂ (λ c d l. d ≡ folded j c l) w.receiver _ _ (λ c. folded j c (x.worked c)) x.worked made_more (λ c _. refl) c ∙ ap (λ f. folded j c (f c)) (sym (work_worked j x w m)))

  pub sent_after_work : (y : Message) → Sent x y → Sent (run_work (ports j) x w m) y
  unfolding run_work
  sent_after_work y i =
      sent_after_all w.receiver _ _ _ (run_take x w m) (receivers (ports j) w.receiver m.hops) (receivers_chares j w.receiver m.hops) (take_consistent ok w m found) y (sent_kept ok w m found y i)

  -- what is newly sent stands in the receiver's outbox
  pub sent_before_work : (y : Message) → Sent (run_work (ports j) x w m) y → Sent x y ⊎ (y ∈ (folded j w.receiver (x.worked w.receiver ++ (m ∷ []))).out)
  unfolding run_work
  sent_before_work y i =
      elim (sent_before_all w.receiver _ _ (found_chare ok w m found) _ (run_take x w m) _ (receivers (ports j) w.receiver m.hops) (receivers_chares j w.receiver m.hops) (take_consistent ok w m found) y i) [
        | inl h ↦ inl (sent_back ok w m found y h)
        | inr h ↦ inr (subst (λ l. y ∈ l.out) made_more h)
      ]
