-- A frame acted in place, then settled: the definitions' step.
use Rattle.std.specs.Prelude.{None, Some, ◌≡◌, true, false, List, ℕ}
use Rattle.std.proofs.Common.{sym, ap, ◌∙◌}
use Rattle.lists.specs.Tests.{true_not_false}
use Rattle.protocol.specs.{declared.Answer.Answer, declared.Answer.TheVariants.{Refused}, Restart.settle, Frames.{Line, frame}, Step.step}
use Rattle.frames.specs.{Read.read_as, declared.Frame.Frame}
use Rattle.store.specs.{View.{view, outcome, Framed}, Framing.refuses}
use Rattle.engine.specs.{Play.{settles, settle_after}, Dispatch.{acted, garbled, steps}}

-- no frame: every word stays
pub unread : (xs : List ℕ) (l : Line) → None ≡ read_as (frame l) → Framed xs xs (Refused 1) (step (view xs) l)
unread xs l e = refuses xs 1 (garbled (view xs) l e)

module _ (xs ys : List ℕ) (l : Line) (f : Frame) (a : Answer) (read : Some f ≡ read_as (frame l)) (acts : Framed xs ys a (acted (view xs) l f)) where
  settled : settle_after (outcome ys a) ≡ step (view xs) l
  settled = ap settle_after acts.gives ∙ sym (steps (view xs) l f read)

  pub stepped : settles a ≡ true → (zs : List ℕ) → view zs ≡ settle (view ys) → Framed xs zs a (step (view xs) l)
  unfolding outcome settle_after settles
  stepped e zs d = record { gives = rw d (rw e at settled); stays = λ n q. true_not_false e (ap settles q) }

  pub left : settles a ≡ false → Framed xs ys a (step (view xs) l)
  unfolding outcome settle_after
  left e = record { gives = rw e at settled; stays = acts.stays }
