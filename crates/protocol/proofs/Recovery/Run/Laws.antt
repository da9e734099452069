-- The laws of crash-free runs: what holds of each, one more injection, one more work.
use Rattle.std.specs.Prelude.{◌≡◌, ◌≢◌, ℕ}
use Rattle.std.proofs.Math.Path.{refl, ap, subst}
use Rattle.std.proofs.Common.{◌∙◌}
use mathlib.Core.List.Memᴰ.{head as here}
use mathlib.Core.List.Memᴰ.{tail as there}
use mathlib.Core.List.{List, [], ◌∷◌, ◌++◌}
use Rattle.std.proofs.Math.Option.{Option, some, none}
use Rattle.lists.specs.Lists.{All}
use Rattle.protocol.specs.Work.{ports}
use Rattle.protocol.specs.declared.Message.{Message}
use Rattle.protocol.specs.Parts.{Job}
use Rattle.protocol.specs.CrashFree.{Injection, Work, Run, run_start, run_send, inject_all, run_work, found_work, one_work, then_work, work_all, crash_free}
use Rattle.protocol.proofs.Recovery.Laws.Options.{some_none, some_inj}
use Rattle.protocol.proofs.Recovery.Run.Facts.{RunOk, ok_start}
use Rattle.protocol.proofs.Recovery.Run.Send.{desk_consistent}
use Rattle.protocol.proofs.Recovery.Run.Work.{work_ok}
use Rattle.protocol.proofs.Recovery.Run.Order.{still_found, send_work}

-- every injection is for a chare
abbrev pub ForChares : List Injection → Type 0
ForChares is = All (λ i. i.chare ≢ 0) is

pub started : (j : Job) → crash_free (ports j) [] [] ≡ some run_start
unfolding crash_free work_all inject_all
started j = refl

-- ---- one work in a list
module _ (j : Job) where
  none_all : (l : List Work) → work_all (ports j) none l ≡ none
  unfolding work_all then_work
  none_all [] = refl
  none_all (w ∷ l) = none_all l

  -- a work whose message is found
  pub does_work : (x : Run) (w : Work) (m : Message) → x.unworked w.sender w.receiver w.sn ≡ some m → then_work (ports j) (some x) w ≡ some (run_work (ports j) x w m)
  unfolding then_work one_work found_work
  does_work x w m e = ap (found_work (ports j) x w) e

  -- a list of works that gives a run finds the message of its first
  pub record First (x : Run) (w : Work) (l : List Work) (y : Run) : Type 0 where
    pub message : Message
    pub found : x.unworked w.sender w.receiver w.sn ≡ some message
    pub rest : work_all (ports j) (some (run_work (ports j) x w message)) l ≡ some y

  pub first : (x : Run) (w : Work) (l : List Work) (y : Run) → work_all (ports j) (some x) (w ∷ l) ≡ some y → First x w l y
  unfolding work_all then_work one_work found_work
  first x w l y e = go (x.unworked w.sender w.receiver w.sn) refl e
    where
      go : (o : Option Message) → x.unworked w.sender w.receiver w.sn ≡ o → work_all (ports j) (found_work (ports j) x w o) l ≡ some y → First x w l y
      go none q e = some_none e (none_all l)
      go (some m) q e = record { message = m; found = q; rest = e }

  pub works_ok : (x : Run) (ws : List Work) (y : Run) → RunOk j x → work_all (ports j) (some x) ws ≡ some y → RunOk j y
  unfolding work_all
  works_ok x [] y ok e = subst (RunOk j) (some_inj refl e) ok
  works_ok x (w ∷ ws) y ok e =
      let f = first x w ws y e in
      works_ok (run_work (ports j) x w f.message) ws y (work_ok j x ok w f.message f.found) f.rest

  -- a send of the desk before some works is one after them
  send_works : (c value hops : ℕ) (x : Run) (ws : List Work) (y : Run) → RunOk j x → work_all (ports j) (some x) ws ≡ some y
      → work_all (ports j) (some (run_send x 0 c value hops)) ws ≡ some (run_send y 0 c value hops)
  unfolding work_all
  send_works c value hops x [] y ok e = ap (λ z. some (run_send z 0 c value hops)) (some_inj refl e)
  send_works c value hops x (w ∷ ws) y ok e =
      let f = first x w ws y e in
      ap (λ o. work_all (ports j) o ws) (does_work _ w f.message (still_found j x ok c value hops w f.message f.found) ∙ ap some (send_work j x ok c value hops w f.message f.found))
      ∙ send_works c value hops (run_work (ports j) x w f.message) ws y (work_ok j x ok w f.message f.found) f.rest

  works_snoc : (o : Option Run) (ws : List Work) (w : Work) → work_all (ports j) o (ws ++ (w ∷ [])) ≡ then_work (ports j) (work_all (ports j) o ws) w
  unfolding work_all
  works_snoc o [] w = refl
  works_snoc o (v ∷ ws) w = works_snoc (then_work (ports j) o v) ws w

  pub desk_ok : (x : Run) (c value hops : ℕ) → c ≢ 0 → RunOk j x → RunOk j (run_send x 0 c value hops)
  unfolding run_send
  desk_ok x c value hops chare ok = desk_consistent ok c value hops chare

  pub injected_ok : (x : Run) (is : List Injection) → ForChares is → RunOk j x → RunOk j (inject_all x is)
  unfolding inject_all
  injected_ok x [] chares ok = ok
  injected_ok x (i ∷ is) chares ok =
      injected_ok (run_send x 0 i.chare i.value i.hops) is (λ k h. chares k (there h)) (desk_ok x i.chare i.value i.hops (chares i (here refl)) ok)

inject_snoc : (x : Run) (is : List Injection) (i : Injection) → inject_all x (is ++ (i ∷ [])) ≡ run_send (inject_all x is) 0 i.chare i.value i.hops
unfolding inject_all
inject_snoc x [] i = refl
inject_snoc x (k ∷ is) i = inject_snoc (run_send x 0 k.chare k.value k.hops) is i

-- ---- the laws
module _ (j : Job) (is : List Injection) (ws : List Work) (x : Run) where
  pub run_ok : ForChares is → crash_free (ports j) is ws ≡ some x → RunOk j x
  unfolding crash_free
  run_ok chares e = works_ok j (inject_all run_start is) ws x (injected_ok j run_start is chares (ok_start j)) e

  pub inject_more : ForChares is → (i : Injection) → crash_free (ports j) is ws ≡ some x
      → crash_free (ports j) (is ++ (i ∷ [])) ws ≡ some (run_send x 0 i.chare i.value i.hops)
  unfolding crash_free
  inject_more chares i e =
      ap (λ y. work_all (ports j) (some y) ws) (inject_snoc run_start is i)
      ∙ send_works j i.chare i.value i.hops (inject_all run_start is) ws x (injected_ok j run_start is chares (ok_start j)) e

  pub work_more : crash_free (ports j) is ws ≡ some x → (w : Work) (m : Message) → x.unworked w.sender w.receiver w.sn ≡ some m
      → crash_free (ports j) is (ws ++ (w ∷ [])) ≡ some (run_work (ports j) x w m)
  unfolding crash_free
  work_more e w m found = works_snoc j _ ws w ∙ ap (λ o. then_work (ports j) o w) e ∙ does_work j x w m found
