-- Looking up an SN: the reply at or below the mark, in the window and beyond it; what the reply says of the SN.
use Rattle.std.specs.Prelude.{◌≡◌, true, false, cond, ℕ, ◌+◌, ◌-◌, ◌≤◌, ◌<◌}
use Rattle.std.proofs.Common.{◌∙◌}
use Rattle.std.proofs.Math.Path.{ap}
use Rattle.std.proofs.Math.Logic.{inl, inr}
use native.Mathlib.Omega.{arith}
use borrow.Author.Tests.{le-leb, lt-leb}
use Rattle.lists.specs.Tests.{either, lt?, true_not_false}
use Rattle.protocol.specs.declared.Seen.TheVariants.{Worked, Open, Beyond}
use Rattle.protocol.specs.Window.{Bits, width, look, worked, is_open, admitted}

module _ (mark : ℕ) (w : Bits) (n : ℕ) where
  pub look_low : n ≤ mark → look mark w n ≡ Worked
  unfolding look
  look_low h = rw (le-leb n mark h)

  pub look_bit : mark < n → n ≤ mark + width → look mark w n ≡ cond (w (n - mark - 1)) Worked Open
  unfolding look
  look_bit h g = rw (lt-leb n mark h, le-leb n (mark + width) g)

  pub look_far : mark + width < n → look mark w n ≡ Beyond (n - mark - width)
  unfolding look
  look_far h = let a : mark < n = omega arith in rw (lt-leb n mark a, lt-leb n (mark + width) h)

  -- worked above the mark: in the window, and its bit is set
  pub worked_near : mark < n → worked (look mark w n) ≡ true → n ≤ mark + width
  unfolding worked
  worked_near h e = elim (lt? (mark + width) n) [ inl a ↦ true_not_false e (ap worked (look_far a)) | inr a ↦ a ]

  pub worked_bit : mark < n → n ≤ mark + width → worked (look mark w n) ≡ w (n - mark - 1)
  unfolding worked
  worked_bit h g = ap worked (look_bit h g) ∙ either (w (n - mark - 1)) (λ e. rw e) (λ e. rw e)

  -- open: above the mark and in the window
  pub open_above : is_open (look mark w n) ≡ true → mark < n
  unfolding is_open
  open_above e = elim (lt? mark n) [ inl a ↦ a | inr a ↦ true_not_false e (ap is_open (look_low a)) ]

  pub open_near : is_open (look mark w n) ≡ true → n ≤ mark + width
  unfolding is_open
  open_near e = elim (lt? (mark + width) n) [ inl a ↦ true_not_false e (ap is_open (look_far a)) | inr a ↦ a ]

  pub is_opened : mark < n → n ≤ mark + width → w (n - mark - 1) ≡ false → is_open (look mark w n) ≡ true
  unfolding is_open
  is_opened h g e = rw (look_bit h g, e)

  pub admitted_near : admitted (look mark w n) ≡ true → n ≤ mark + width
  unfolding admitted
  admitted_near e = elim (lt? (mark + width) n) [ inl a ↦ true_not_false e (ap admitted (look_far a)) | inr a ↦ a ]
