-- What a restart sends again: each packet and the logged message that it comes from.
use Rattle.std.specs.Prelude.{◌≡◌, refl, Bool, true, false, cond, [], ◌∷◌, ℕ, ◌<◌, eqb, ltb}
use mathlib.Core.List.Memᴰ
use Rattle.std.proofs.Common.{eqb-true, ltb-true}
use Rattle.lists.specs.Tests.{either}
use Rattle.lists.specs.Lists.{◌∈◌, gather_mem, sort_mem}
use Rattle.protocol.specs.declared.Logged.{Logged}
use Rattle.protocol.specs.declared.Packet.{Packet}
use Rattle.protocol.specs.declared.Content.TheVariants.{Ask as ASK, Data as DATA}
use Rattle.protocol.specs.Parts.{State, on, every_sender}
use Rattle.protocol.specs.Sending.{about}
use Rattle.protocol.specs.Restart.{from_elsewhere, from_here, resend, log_order, resends}

-- why packet k goes out for the message x in the log of q, at a restart of p
pub data Cause (s : State) (p q : ℕ) (x : Logged) (k : Packet) : Type 0 where
  ask_here : on s.job p q ≡ false → on s.job p x.message.receiver ≡ true → x.tn ≡ 0 → k ≡ about x.message ASK → Cause s p q x k
  data_here : on s.job p q ≡ false → on s.job p x.message.receiver ≡ true → (s.live x.message.receiver).height < x.tn
      → k ≡ about x.message (DATA x.message.value x.message.hops) → Cause s p q x k
  ask_elsewhere : on s.job p q ≡ true → on s.job p x.message.receiver ≡ false → x.tn ≡ 0 → k ≡ about x.message ASK → Cause s p q x k

pub record Resent (s : State) (p : ℕ) (k : Packet) : Type 0 where
  pub place : ℕ
  pub known : place ∈ every_sender
  pub logged : Logged
  pub member : logged ∈ (s.live place).log
  pub cause : Cause s p place logged k

-- one packet or none, by a test
single : {A : Type 0} {a k : A} (b : Bool) → k ∈ cond b (a ∷ []) [] → (b ≡ true) × (k ≡ a)
single true i = (refl, Memᴰ.eq_of_singleton i)
single false i = absurd (Memᴰ.not-nil i)

resend_cause : (s : State) (p q : ℕ) (x : Logged) {k : Packet} → k ∈ resend s p q x → Cause s p q x k
unfolding resend from_here from_elsewhere
resend_cause s p q x i = either (on s.job p q)
    (λ e. either (on s.job p x.message.receiver)
    (λ f. absurd (Memᴰ.not-nil (rw (e, f) at i)))
    (λ f. let r = single (eqb x.tn 0) (rw (e, f) at i) in ask_elsewhere e f (eqb-true _ _ r.0) r.1))
    (λ e. either (on s.job p x.message.receiver)
    (λ f. either (eqb x.tn 0)
    (λ g. ask_here e f (eqb-true _ _ g) (Memᴰ.eq_of_singleton (rw (e, f, g) at i)))
    (λ g. let r = single (ltb (s.live x.message.receiver).height x.tn) (rw (e, f, g) at i) in data_here e f (ltb-true _ _ r.0) r.1))
    (λ f. absurd (Memᴰ.not-nil (rw (e, f) at i))))

pub resends_mem : (s : State) (p : ℕ) {k : Packet} → k ∈ resends s p → Resent s p k
unfolding resends
resends_mem s p i =
    let (q, a, j) = gather_mem _ every_sender i in
    let (x, b, c) = gather_mem (resend s p q) _ j in
    record { place = q; known = a; logged = x; member = sort_mem log_order (s.live q).log b; cause = resend_cause s p q x c }
