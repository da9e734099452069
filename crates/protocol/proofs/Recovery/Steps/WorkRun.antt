-- A chare works one more message: the run has it at that place already, or grows by it.
use Rattle.std.specs.Prelude.{◌≡◌, refl, ◌≢◌, ◌⊎◌, [], ◌∷◌, ◌++◌, ℕ, suc, ◌+◌, ◌≤◌, length, take}
use Rattle.std.proofs.Common.{sym, ap, ◌∙◌, inl, inr, arith, length-append}
use Rattle.std.proofs.Math.Path.{subst⁻¹}
use mathlib.Core.List.Memᴰ
use mathlib.Core.List.Memᴰ.{head as here}
use Rattle.std.proofs.Math.Option.{some}
use Rattle.std.proofs.Math.Seq.{take-append-add, take-append_seam, take-length}
use Rattle.lists.specs.Tests.{lt?}
use Rattle.lists.specs.Map.{upd_same, upd_other, upd_ind}
use Rattle.lists.specs.Lists.{◌∈◌, Prefix, prefix_refl, prefix_snoc}
use Rattle.protocol.specs.Work.{ports}
use Rattle.protocol.specs.declared.Message.{Message}
use Rattle.protocol.specs.Parts.{Job}
use Rattle.protocol.specs.CrashFree.{Run, Work, run_work}
use Rattle.protocol.proofs.Recovery.Run.Fold.{folded}
use Rattle.protocol.proofs.Recovery.Run.Facts.{Sent, RunOk, worked_sent}
use Rattle.protocol.proofs.Recovery.Run.Work.{found_chare, work_worked, work_ok, work_sn_other, sent_after_work, sent_before_work}
use Rattle.protocol.proofs.Recovery.Invariant.World.{Place}
use Rattle.protocol.proofs.Recovery.Run.Grown.{Grown}

-- In the run y chare c works m after its first k messages, all of them in the run x; y is x where x has that already.
pub record Works (j : Job) (x y : Run) (c k : ℕ) (m : Message) : Type 0 where
  pub ok : RunOk j y
  pub grown : Grown x y
  pub others : (a : ℕ) → a ≢ c → y.worked a ≡ x.worked a
  pub longer : take (k + 1) (y.worked c) ≡ take k (x.worked c) ++ (m ∷ [])
  pub reached : k + 1 ≤ length (y.worked c)
  pub bound : (t : ℕ) → t ≤ length (y.worked c) → (t ≤ length (x.worked c)) ⊎ (t ≡ k + 1)
  pub desk : y.sn 0 ≡ x.sn 0
  pub new : (z : Message) → Sent y z → Sent x z ⊎ (z ∈ (folded j c (y.worked c)).out)

-- the work of m at c
abbrev pub work_of : ℕ → Message → Work
work_of c m = record { receiver = c; sender = m.sender; sn = m.sn }

module _ (j : Job) {x : Run} (ok : RunOk j x) (c k : ℕ) (m : Message) where
  -- the message at the place is m
  at_place : (p : Place (x.worked c) (k + 1) m.sender m.sn) → m.receiver ≡ c → Sent x m → p.message ≡ m
  at_place p e s =
      let i : p.message ∈ x.worked c = subst⁻¹ (p.message ∈◌) p.split (Memᴰ.append_right p.before (here refl)) in
      ok.one_body p.message m (worked_sent ok c p.message i) s p.of_sender (ok.to c p.message i ∙ sym e) p.of_sn

  pub replays : Place (x.worked c) (k + 1) m.sender m.sn → m.receiver ≡ c → Sent x m → Works j x x c k m
  replays p e s = record {
    ok = ok;
    grown = record { worked = λ a. prefix_refl _; sent = λ z h. h };
    others = λ a d. refl;
    longer =
        (let h : k + 1 ≡ suc (length p.before) = p.place in
        let f : k ≡ length p.before = omega arith in
        rw (f, p.split, take-append-add p.before (p.message ∷ p.after) 1, take-append_seam p.before (p.message ∷ p.after), at_place p e s));
    reached =
        (let h : k + 1 ≡ suc (length p.before) = p.place in
        let f = ap length p.split ∙ length-append p.before (p.message ∷ p.after) in
        omega arith);
    bound = λ t h. inl h;
    desk = refl;
    new = λ z h. inl h;
  }

  module _ (full : k ≡ length (x.worked c)) (found : x.unworked m.sender c m.sn ≡ some m) where
    abbrev after : Run
    after = run_work (ports j) x (work_of c m) m

    worked_after : after.worked c ≡ x.worked c ++ (m ∷ [])
    worked_after = ap (λ f. f c) (work_worked j x (work_of c m) m) ∙ upd_same c _ x.worked

    prefix_after : (a : ℕ) → Prefix (x.worked a) (after.worked a)
    prefix_after a = subst⁻¹ (λ f. Prefix (x.worked a) (f a)) (work_worked j x (work_of c m) m)
        (upd_ind (λ a l. Prefix (x.worked a) l) c (x.worked c ++ (m ∷ [])) x.worked (prefix_snoc m (prefix_refl _)) (λ a _. prefix_refl _) a)

    length_after : length (after.worked c) ≡ k + 1
    length_after = ap length worked_after ∙ length-append (x.worked c) (m ∷ []) ∙ ap (◌+ 1) (sym full)

    pub works_new : Works j x after c k m
    works_new = record {
      ok = work_ok j x ok (work_of c m) m found;
      grown = record { worked = prefix_after; sent = sent_after_work j x ok (work_of c m) m found };
      others = λ a d. ap (λ f. f a) (work_worked j x (work_of c m) m) ∙ upd_other c _ x.worked a d;
      longer = rw (full, worked_after, take-append-add (x.worked c) (m ∷ []) 1, take-length (x.worked c));
      reached = omega (arith, length_after);
      bound = λ t h. elim (lt? (length (x.worked c)) t) [ inl u ↦ inr (omega (arith, length_after)) | inr u ↦ inl u ];
      desk = work_sn_other j x (work_of c m) m 0 (λ e. found_chare ok (work_of c m) m found (sym e));
      new = λ z h. elim (sent_before_work j x ok (work_of c m) m found z h) [ inl u ↦ inl u | inr u ↦ inr (subst⁻¹ (λ l. z ∈ (folded j c l).out) worked_after u) ];
    }
