-- One injection less: a run in which the desk's last message to a chare is unworked is the run without that injection, with that
-- message sent. The converse of "one more injection".
use Rattle.std.specs.Prelude.{◌≡◌, true, false, ◌≢◌, ◌⊎◌, ℕ, ◌+◌}
use Rattle.std.proofs.Math.Path.{refl, sym, ap, subst, subst₂, subst₃}
use Rattle.std.proofs.Common.{◌∙◌, arith, eqb-true}
use Rattle.std.proofs.Math.Logic.{inl, inr}
use mathlib.Core.List.Memᴰ.{head as here}
use mathlib.Core.List.Memᴰ.{tail as there}
use mathlib.Core.List.{List, [], ◌∷◌}
use Rattle.std.proofs.Math.Option.{some, none}
use Rattle.std.proofs.lemmas.Bool.{eqb-false}
use Rattle.lists.specs.Tests.{either, eq?, true_not_false, or_cases, or_none}
use Rattle.lists.specs.Map.{upd_same}
use Rattle.lists.specs.Lists.{◌∈◌, All, all_cons, anyb}
use Rattle.protocol.specs.Work.{ports}
use Rattle.protocol.specs.declared.Message.{Message}
use Rattle.protocol.specs.Parts.{Job}
use Rattle.protocol.specs.CrashFree.{Injection, Work, Run, run_start, run_send, inject_all, run_take, run_work, work_all, crash_free}
use Rattle.protocol.specs.History.{is_to, without_last_to}
use Rattle.protocol.proofs.Recovery.Laws.Options.{some_none, some_inj}
use Rattle.protocol.proofs.Recovery.Run.Nested.{upd2_other, upd3_other}
use Rattle.protocol.proofs.Recovery.Run.Facts.{RunOk, ok_start, unworked_sent}
use Rattle.protocol.proofs.Recovery.Run.Send.{send_sn_same}
use Rattle.protocol.proofs.Recovery.Run.Work.{found_receiver, found_chare, taken, worked_stays, work_worked, work_sn_other, work_ok}
use Rattle.protocol.proofs.Recovery.Run.Order.{send_send, send_work}
use Rattle.protocol.proofs.Recovery.Run.Laws.{ForChares, First, first, does_work, works_ok, desk_ok, injected_ok}

-- ---- the injections
-- those that are left
pub all_without_last : {P : Injection → Type 0} (c : ℕ) (is : List Injection) → All P is → All P (without_last_to c is)
unfolding without_last_to
all_without_last c [] h = h
all_without_last c (i ∷ is) h = either (anyb (is_to c) is)
    (λ e. rw e (all_cons (h i (here refl)) (all_without_last c is (λ k j. h k (there j)))))
    (λ e. rw e (either (is_to c i) (λ f. rw f (λ k j. h k (there j))) (λ f. rw f h)))

-- a message to c before others that go elsewhere is one after them
to_others : (c value hops : ℕ) (x : Run) (is : List Injection) → anyb (is_to c) is ≡ false → inject_all (run_send x 0 c value hops) is ≡ run_send (inject_all x is) 0 c value hops
unfolding inject_all anyb is_to
to_others c value hops x [] e = refl
to_others c value hops x (i ∷ is) e =
    let (f, g) = or_none (is_to c i) (anyb (is_to c) is) e in
    ap (λ y. inject_all y is) (send_send 0 c value hops 0 i.chare i.value i.hops (λ q. eqb-false i.chare c f (sym q.1)) x)
    ∙ to_others c value hops (run_send x 0 i.chare i.value i.hops) is g

-- the last one to c may as well come last of all
record Moved (c : ℕ) (x : Run) (is : List Injection) : Type 0 where
  value : ℕ
  hops : ℕ
  same : inject_all x is ≡ run_send (inject_all x (without_last_to c is)) 0 c value hops

moved : (c : ℕ) (x : Run) (is : List Injection) → anyb (is_to c) is ≡ true → Moved c x is
unfolding inject_all without_last_to anyb is_to
moved c x [] e = true_not_false e refl
moved c x (i ∷ is) e = either (anyb (is_to c) is)
    (λ f. let m = moved c (run_send x 0 i.chare i.value i.hops) is f in record { value = m.value; hops = m.hops; same = rw f m.same })
    (λ f.
    let g : is_to c i ≡ true = elim (or_cases (is_to c i) (anyb (is_to c) is) e) [ inl g ↦ g | inr g ↦ true_not_false g f ] in
    record {
      value = i.value;
      hops = i.hops;
      same = rw (f, g) (ap (λ r. inject_all (run_send x 0 r i.value i.hops) is) (eqb-true i.chare c g) ∙ to_others c i.value i.hops x is f);
    })

-- without one to c the desk has sent nothing there
nothing_to : (c : ℕ) (x : Run) (is : List Injection) → anyb (is_to c) is ≡ false → (inject_all x is).sn 0 c ≡ x.sn 0 c
unfolding inject_all anyb is_to run_send
nothing_to c x [] e = refl
nothing_to c x (i ∷ is) e =
    let (f, g) = or_none (is_to c i) (anyb (is_to c) is) e in
    nothing_to c (run_send x 0 i.chare i.value i.hops) is g ∙ upd2_other 0 i.chare _ x.sn 0 c (λ q. eqb-false i.chare c f (sym q.1))

-- ---- the works
same_key? : (w : Work) (a r n : ℕ) → ((w.sender ≡ a) × (w.receiver ≡ r) × (w.sn ≡ n)) ⊎ (¬ ((w.sender ≡ a) × (w.receiver ≡ r) × (w.sn ≡ n)))
same_key? w a r n = elim (eq? w.sender a) [
  | inr d ↦ inr (λ e. d e.0)
  | inl p ↦ elim (eq? w.receiver r) [
    | inr d ↦ inr (λ e. d e.1)
    | inl q ↦ elim (eq? w.sn n) [ inr d ↦ inr (λ e. d e.2) | inl k ↦ inl (p, q, k) ]
  ]
]

module _ (j : Job) where
  -- what is worked stays worked
  still_worked : (x : Run) (ws : List Work) (y : Run) → RunOk j x → work_all (ports j) (some x) ws ≡ some y → (r : ℕ) (m : Message) → m ∈ x.worked r → m ∈ y.worked r
  unfolding work_all run_take
  still_worked x [] y ok e r m i = subst (λ z. m ∈ z.worked r) (some_inj refl e) i
  still_worked x (w ∷ ws) y ok e r m i =
      let f = first j x w ws y e in
      still_worked (run_work (ports j) x w f.message) ws y (work_ok j x ok w f.message f.found) f.rest r m
      (subst (λ g. m ∈ g r) (sym (work_worked j x w f.message)) (worked_stays ok w f.message f.found m r i))

  -- the works leave the desk's counts
  desk_counts : (x : Run) (ws : List Work) (y : Run) → RunOk j x → work_all (ports j) (some x) ws ≡ some y → y.sn 0 ≡ x.sn 0
  unfolding work_all
  desk_counts x [] y ok e = ap (λ z. z.sn 0) (sym (some_inj refl e))
  desk_counts x (w ∷ ws) y ok e =
      let f = first j x w ws y e in
      desk_counts (run_work (ports j) x w f.message) ws y (work_ok j x ok w f.message f.found) f.rest
      ∙ work_sn_other j x w f.message 0 (λ q. found_chare ok w f.message f.found (sym q))

  -- a work of the message sent last would leave it worked
  record Less (c value hops : ℕ) (x : Run) (ws : List Work) (y : Run) : Type 0 where
    run : Run
    is_run : work_all (ports j) (some x) ws ≡ some run
    same : y ≡ run_send run 0 c value hops

  worked_none : (x : Run) (w : Work) (ws : List Work) (y : Run) → RunOk j x → First j x w ws y → y.unworked w.sender w.receiver w.sn ≡ none
  unfolding run_take
  worked_none x w ws y ok f =
      let m = f.message in
      let next = work_ok j x ok w m f.found in
      let (p, _, k) = ok.named _ _ _ m f.found in
      let i = still_worked (run_work (ports j) x w m) ws y next f.rest w.receiver m
      (subst (λ g. m ∈ g w.receiver) (sym (work_worked j x w m)) (subst (λ r. m ∈ (run_take x w m).worked r) (found_receiver ok w m f.found) (taken ok w m f.found))) in
      subst₂ (λ a n. y.unworked a w.receiver n ≡ none) p k ((works_ok j _ ws y next f.rest).worked_once w.receiver m i)

  works_less : (c value hops : ℕ) → c ≢ 0 → (x : Run) (ws : List Work) (y : Run) (m : Message) → RunOk j x → work_all (ports j) (some (run_send x 0 c value hops)) ws ≡ some y
      → y.unworked 0 c (x.sn 0 c + 1) ≡ some m → Less c value hops x ws y
  unfolding work_all run_send
  works_less c value hops chare x [] y m ok e u = record { run = x; is_run = refl; same = sym (some_inj refl e) }
  works_less c value hops chare x (w ∷ ws) y m ok e u =
      let f = first j (run_send x 0 c value hops) w ws y e in
      elim (same_key? w 0 c (x.sn 0 c + 1)) [
        | inl (p, q, k) ↦ some_none u (subst₃ (λ a r n. y.unworked a r n ≡ none) p q k (worked_none (run_send x 0 c value hops) w ws y (desk_ok j x c value hops chare ok) f))
        | inr d ↦
            let g = f.message in
            let found : x.unworked w.sender w.receiver w.sn ≡ some g = sym (upd3_other 0 c _ _ x.unworked w.sender w.receiver w.sn d) ∙ f.found in
            let next = run_work (ports j) x w g in
            let counts : next.sn 0 ≡ x.sn 0 = work_sn_other j x w g 0 (λ q. found_chare ok w g found (sym q)) in
            let l = works_less c value hops chare next ws y m (work_ok j x ok w g found)
            (subst (λ z. work_all (ports j) (some z) ws ≡ some y) (send_work j x ok c value hops w g found) f.rest)
            (subst (λ s. y.unworked 0 c (s c + 1) ≡ some m) (sym counts) u) in
            record { run = l.run; is_run = ap (λ o. work_all (ports j) o ws) (does_work j x w g found) ∙ l.is_run; same = l.same }
      ]

-- ---- the law
pub record Fewer (j : Job) (is : List Injection) (ws : List Work) (c : ℕ) (x : Run) : Type 0 where
  pub run : Run
  pub value : ℕ
  pub hops : ℕ
  pub is_run : crash_free (ports j) (without_last_to c is) ws ≡ some run
  pub same : x ≡ run_send run 0 c value hops

pub inject_less : (j : Job) (is : List Injection) (ws : List Work) (x : Run) → ForChares is → crash_free (ports j) is ws ≡ some x
    → (c : ℕ) → c ≢ 0 → (m : Message) → x.unworked 0 c (x.sn 0 c) ≡ some m → Fewer j is ws c x
unfolding crash_free run_start
inject_less j is ws x chares e c chare m u =
    let all = injected_ok j run_start is chares (ok_start j) in
    let counts = ap (λ f. f c) (desk_counts j (inject_all run_start is) ws x all e) in
    either (anyb (is_to c) is)
    (λ f.
    let v = moved c run_start is f in
    let fewer = inject_all run_start (without_last_to c is) in
    let n : x.sn 0 c ≡ fewer.sn 0 c + 1 = counts ∙ ap (λ y. y.sn 0 c) v.same ∙ ap (λ f. f c) (send_sn_same fewer 0 c v.value v.hops) ∙ upd_same c _ (fewer.sn 0) in
    let l = works_less j c v.value v.hops chare fewer ws x m (injected_ok j run_start (without_last_to c is) (all_without_last c is chares) (ok_start j))
    (subst (λ y. work_all (ports j) (some y) ws ≡ some x) v.same e) (subst (λ k. x.unworked 0 c k ≡ some m) n u) in
    record { run = l.run; value = v.value; hops = v.hops; is_run = l.is_run; same = l.same })
    (λ f.
    let ok = works_ok j (inject_all run_start is) ws x all e in
    let (_, _, k) = ok.named 0 c (x.sn 0 c) m u in
    let b = (ok.bounds m (unworked_sent ok 0 c (x.sn 0 c) m u)).0 in
    let z = nothing_to c run_start is f in
    absurd (omega arith))
