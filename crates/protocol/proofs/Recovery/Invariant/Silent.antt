-- Who is neither the desk nor a chare has logged nothing. What reads the logs of every number, as a restart does, needs to know.
use Rattle.std.specs.Prelude.{◌≡◌, ◌⊎◌, ◌≢◌, [], ℕ}
use Rattle.std.proofs.Common.{subst, inl, inr}
use mathlib.Core.List.Memᴰ
use Rattle.lists.specs.Tests.{eq?}
use Rattle.lists.specs.Map.{upd_ind}
use Rattle.lists.specs.Lists.{◌∈◌}
use Rattle.protocol.specs.declared.Logged.{Logged}
use Rattle.protocol.specs.Parts.{Memory, State}
use Rattle.protocol.specs.Setters.{with_memory}
use Rattle.protocol.proofs.Recovery.Invariant.Clauses.{Sender}

abbrev pub Silent : State → Type 0
Silent s = (a : ℕ) → a ≢ 0 → s.job.home a ≡ 0 → (s.live a).log ≡ []

-- whoever has logged a message is a sender
pub logs_sender : (s : State) → Silent s → (a : ℕ) {y : Logged} → y ∈ (s.live a).log → Sender s.job a
logs_sender s silent a {y} i = elim (eq? a 0) [ inl e ↦ inl e | inr d ↦ inr (λ e. Memᴰ.not-nil (subst (y ∈◌) (silent a d e) i)) ]

-- the memory of a becomes m: a is a sender, or m has an empty log
pub silent_memory : (s : State) → Silent s → (a : ℕ) (m : Memory) → Sender s.job a ⊎ (m.log ≡ []) → Silent (with_memory s a m)
silent_memory s silent a m k = upd_ind (λ c n. c ≢ 0 → s.job.home c ≡ 0 → n.log ≡ []) a m s.live
    (λ d e. elim k [ inl z ↦ elim z [ inl f ↦ absurd (d f) | inr f ↦ absurd (f e) ] | inr z ↦ z ])
    (λ c _. silent c)
