-- The messages sent again at a restart. What is restored is the copy with another table and top, so heights and logs of the chares on p are
-- those of the copies.
use Rattle.std.specs.Prelude.{◌≡◌, Bool, true, false, cond, List, [], ◌∷◌, map, ℕ, eqb, ltb, Option, None, Some}
use Rattle.std.proofs.Common.{ap, mod-eq_of_lt}
use Rattle.std.proofs.Math.Path.{fun_ext}
use Rattle.lists.specs.{Tests.either, Lists.{gather, sort}}
use Rattle.protocol.specs.{declared.Content.Content, declared.Content.TheVariants.{Ask as ASK, Data as DATA}, declared.Logged.Logged, declared.Message.Message}
use Rattle.protocol.specs.{declared.Packet.Packet, Parts.{State, on, at_home, every_sender}, Sending.about}
use Rattle.protocol.specs.{Restart.{from_elsewhere, from_here, resend, resends, restore, restored, log_order}}
use Rattle.logs.specs.Fits.{Fits}
use Rattle.packets.specs.Words.{fitted, fit_content}

-- none or one
unfoldable pub packets_of : Message → Option Content → List Packet
packets_of m None = []
packets_of m (Some c) = about m c ∷ []

-- ---- one message: h is the height of its receiver
unfoldable pub elsewhere : ℕ → Logged → List Packet
elsewhere h x =
    let m = x.message in
    cond (eqb x.tn 0) (about m ASK ∷ [])
    (cond (ltb h x.tn) (about m (DATA m.value m.hops) ∷ []) [])

-- of a sender that is here, on p, or not
unfoldable pub again : State → ℕ → Bool → Logged → List Packet
again s p here x =
    let to-p = on s.job p x.message.receiver in
    cond here (cond to-p [] (from_here x)) (cond to-p (elsewhere (s.copy x.message.receiver).height x) [])

-- what fits a word goes out as it is
module _ (x : Logged) (fits : Fits x.message) where
  here_fits : map fitted (from_here x) ≡ from_here x
  unfolding from_here fitted fit_content about
  here_fits = either (eqb x.tn 0) (λ e. rw (e, mod-eq_of_lt fits.sender, mod-eq_of_lt fits.receiver)) (λ e. rw e)

  elsewhere_fits : (h : ℕ) → map fitted (elsewhere h x) ≡ elsewhere h x
  unfolding elsewhere fitted fit_content about
  elsewhere_fits h = either (eqb x.tn 0)
      (λ e. rw (e, mod-eq_of_lt fits.sender, mod-eq_of_lt fits.receiver))
      (λ e. either (ltb h x.tn) (λ f. rw (e, f, mod-eq_of_lt fits.sender, mod-eq_of_lt fits.receiver, mod-eq_of_lt fits.hops)) (λ f. rw (e, f)))

  pub again_fits : (s : State) (p : ℕ) (here : Bool) → map fitted (again s p here x) ≡ again s p here x
  unfolding again
  again_fits s p true = either (on s.job p x.message.receiver) (λ e. rw e) (λ e. rw e here_fits)
  again_fits s p false = either (on s.job p x.message.receiver) (λ e. rw e (elsewhere_fits _)) (λ e. rw e)

-- ---- a sender's log, sorted
unfoldable pub log_back : State → ℕ → ℕ → List Logged
log_back s p q = cond (on s.job p q) (s.copy q).log (s.live q).log

unfoldable pub all_again : State → ℕ → ℕ → List Packet
all_again s p q = gather (again s p (on s.job p q)) (sort log_order (log_back s p q))

-- ---- the rule book's, of the state that is back
module _ (s : State) (p : ℕ) where
  log_is : (q : ℕ) → ((restore s p).live q).log ≡ log_back s p q
  unfolding restore at_home restored log_back
  log_is q = either (on s.job p q) (λ e. rw e) (λ e. rw e)

  resend_is : (q : ℕ) (x : Logged) → resend (restore s p) p q x ≡ again s p (on s.job p q) x
  unfolding resend again from_elsewhere elsewhere restore at_home restored
  resend_is q x = either (on s.job p x.message.receiver) (λ e. rw e) (λ e. rw e)

  pub resends_is : resends (restore s p) p ≡ gather (all_again s p) every_sender
  unfolding resends all_again
  resends_is = ap (λ f. gather f every_sender) (fun_ext (λ q. rw (log_is q, fun_ext (resend_is q))))
