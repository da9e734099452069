-- What the history says after a crash.
use Rattle.std.proofs.Common.{sym, ap, ◌∙◌, inl, inr}
use Rattle.std.specs.Prelude.{ℕ, take}
use Rattle.lists.specs.Tests.{eq?}
use Rattle.lists.specs.Map.{upd, upd_same, upd_other}
use Rattle.protocol.specs.declared.Status.TheVariants.{Down}
use Rattle.protocol.specs.Parts.{State, blank}
use Rattle.protocol.specs.Crash.{crash}
use Rattle.protocol.specs.CrashFree.{Run}
use Rattle.protocol.specs.History.{History}
use Rattle.protocol.proofs.Recovery.Laws.AtHome.{at_home_off}
use Rattle.protocol.proofs.Recovery.Invariant.Good.{Told}

pub crash_told : (s : State) (q : ℕ) {h : History} {x : Run} {stable : ℕ → ℕ} → Told s h x stable → Told (crash s q) h x stable
unfolding crash
crash_told s q {h} {x} told = record {
  sequence = λ c k u. elim (eq? (s.job.home c) q) [
    | inl e ↦ absurd (u (ap (λ p. upd q Down s.status p) e ∙ upd_same q Down s.status))
    | inr d ↦ told.sequence c k (λ e. u (upd_other q Down s.status (s.job.home c) d ∙ e))
        ∙ ap (λ m. take m.height (x.worked c)) (sym (at_home_off s.job q (λ c m. blank) s.live c d))
  ];
  saved = told.saved;
  nobody = told.nobody;
}
