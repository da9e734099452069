-- A send of the desk and a work change places: an injection may as well come before the works.
use Rattle.std.specs.Prelude.{◌≡◌, refl, ◌≢◌, List, [], ◌∷◌, ℕ, ◌+◌, ◌-◌}
use Rattle.std.proofs.Common.{sym, ◌∙◌}
use Rattle.std.proofs.Math.Path.{ap}
use Rattle.std.proofs.Math.Option.{Option, some, none}
use Rattle.protocol.specs.declared.Message.{Message}
use Rattle.protocol.specs.Parts.{Job}
use Rattle.protocol.specs.Work.{receivers, sent_value, ports}
use Rattle.protocol.specs.CrashFree.{Run, Work, upd3, run_send, run_send_all, run_take, run_work}
use Rattle.protocol.proofs.Recovery.Run.Nested.{upd2, upd2_other, upd2_comm, upd3_comm, upd3_other}
use Rattle.protocol.proofs.Recovery.Run.Facts.{RunOk, sent_old}
use Rattle.protocol.proofs.Recovery.Run.Work.{found_sent, found_chare}

-- what a send makes of the unworked messages, n being its SN
abbrev posted : ℕ → ℕ → ℕ → ℕ → ℕ → (ℕ → ℕ → ℕ → Option Message) → ℕ → ℕ → ℕ → Option Message
posted s r value hops n u = upd3 s r n (some (record { sender = s; receiver = r; sn = n; value = value; hops = hops })) u

-- sends of two senders, or to two receivers, change places
pub send_send : (s r value hops a b v h : ℕ) → ¬ ((s ≡ a) × (r ≡ b)) → (x : Run) → run_send (run_send x s r value hops) a b v h ≡ run_send (run_send x a b v h) s r value hops
unfolding run_send
send_send s r value hops a b v h differ x =
    let differ' : ¬ ((a ≡ s) × (b ≡ r)) = λ e. differ (sym e.0, sym e.1) in
    let p : upd2 s r (x.sn s r + 1) x.sn a b + 1 ≡ x.sn a b + 1 = ap (◌+ 1) (upd2_other s r _ x.sn a b differ') in
    let q : upd2 a b (x.sn a b + 1) x.sn s r + 1 ≡ x.sn s r + 1 = ap (◌+ 1) (upd2_other a b _ x.sn s r differ) in
    let n = ap (λ k. upd2 a b k (upd2 s r (x.sn s r + 1) x.sn)) p ∙ upd2_comm a b s r _ _ x.sn differ' ∙ ap (λ k. upd2 s r k (upd2 a b (x.sn a b + 1) x.sn)) (sym q) in
    let u = ap (λ k. posted a b v h k (posted s r value hops (x.sn s r + 1) x.unworked)) p
    ∙ upd3_comm a b _ s r _ _ _ x.unworked (λ e. differ' (e.0, e.1))
    ∙ ap (λ k. posted s r value hops k (posted a b v h (x.sn a b + 1) x.unworked)) (sym q) in
    λ i. record { state = x.state; worked = x.worked; sn = n i; unworked = u i }

send_send_all : (s r value hops a : ℕ) → s ≢ a → (x : Run) (l : List ℕ) (v h : ℕ) → run_send_all (run_send x s r value hops) a l v h ≡ run_send (run_send_all x a l v h) s r value hops
unfolding run_send_all
send_send_all s r value hops a differ x [] v h = refl
send_send_all s r value hops a differ x (b ∷ l) v h =
    ap (λ y. run_send_all y a l v h) (send_send s r value hops a b v h (λ e. differ e.0) x) ∙ send_send_all s r value hops a differ (run_send x a b v h) l v h

-- what is taken is none of what is sent now
send_take : (x : Run) (s r value hops : ℕ) (w : Work) (m : Message) → ¬ ((w.sender ≡ s) × (w.receiver ≡ r) × (w.sn ≡ x.sn s r + 1))
    → run_take (run_send x s r value hops) w m ≡ run_send (run_take x w m) s r value hops
unfolding run_send run_take
send_take x s r value hops w m differ =
    let u = upd3_comm w.sender w.receiver w.sn s r _ none _ x.unworked differ in
    λ i. record { state = (run_take x w m).state; worked = (run_take x w m).worked; sn = upd2 s r (x.sn s r + 1) x.sn; unworked = u i }

module _ (j : Job) (x : Run) (ok : RunOk j x) (r value hops : ℕ) (w : Work) (m : Message) (found : x.unworked w.sender w.receiver w.sn ≡ some m) where
  -- the key that is worked is not the next one of the desk
  key_old : ¬ ((w.sender ≡ 0) × (w.receiver ≡ r) × (w.sn ≡ x.sn 0 r + 1))
  key_old e =
      let (p, q, k) = ok.named _ _ _ m found in
      sent_old ok 0 r m (found_sent ok w m found) (p ∙ e.0, q ∙ e.1, k ∙ e.2)

  pub still_found : (run_send x 0 r value hops).unworked w.sender w.receiver w.sn ≡ some m
  unfolding run_send
  still_found = upd3_other 0 r _ _ x.unworked w.sender w.receiver w.sn key_old ∙ found

  pub send_work : run_work (ports j) (run_send x 0 r value hops) w m ≡ run_send (run_work (ports j) x w m) 0 r value hops
  unfolding run_work run_send
  send_work =
      ap (λ y. run_send_all y w.receiver (receivers (ports j) w.receiver m.hops) (sent_value (y.state w.receiver)) (m.hops - 1)) (send_take x 0 r value hops w m key_old)
      ∙ send_send_all 0 r value hops w.receiver (λ e. found_chare ok w m found (sym e)) (run_take x w m) (receivers (ports j) w.receiver m.hops) _ _
