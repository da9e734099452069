-- What a chare owes in the midst of a work is what the fold sends: counts, messages, receivers.
use Rattle.std.specs.Prelude.{◌≡◌, refl, ◌≢◌, ℕ, ◌+◌, ◌-◌}
use mathlib.Core.List.Memᴰ
use mathlib.Core.List.Memᴰ.{head as here}
use mathlib.Core.List.Memᴰ.{tail as there}
use mathlib.Core.List.{List, [], ◌∷◌}
use Rattle.std.proofs.Common.{eq-eqb, ne_eqb}
use Rattle.lists.specs.Map.{upd}
use Rattle.lists.specs.Lists.{All, all_nil, all_snoc}
use Rattle.protocol.specs.declared.Message.{Message}
use Rattle.protocol.specs.Parts.{Job}
use Rattle.protocol.specs.Work.{receivers, ports}
use Rattle.protocol.specs.CrashFree.{Run}
use Rattle.protocol.proofs.Recovery.Run.Fold.{Local, local_start, local_send, local_send_all, local_work, follow, folded, prefix_mem, send_all_grows}
use Rattle.protocol.proofs.Recovery.Run.Facts.{Sent}
use Rattle.protocol.proofs.Recovery.Invariant.World.{Pending, count_all, counted, Owed}

-- ---- counts
module _ (p : Pending) where
  pub counted_sender : (f : ℕ → ℕ) → counted p p.sender f ≡ count_all p.receivers f
  unfolding counted
  counted_sender f = rw (eq-eqb p.sender p.sender refl)

  pub counted_other : (a : ℕ) (f : ℕ → ℕ) → a ≢ p.sender → counted p a f ≡ f
  unfolding counted
  counted_other a f d = rw (ne_eqb a p.sender d)

pub count_all_one : (r : ℕ) (f : ℕ → ℕ) → count_all (r ∷ []) f ≡ upd r (f r + 1) f
unfolding count_all
count_all_one r f = refl

-- what is counted is what is sent
pub count_all_sends : (c : ℕ) (d : Local) (l : List ℕ) (value hops : ℕ) → count_all l d.sn ≡ (local_send_all c d l value hops).sn
unfolding count_all local_send_all local_send
count_all_sends c d [] value hops = refl
count_all_sends c d (r ∷ l) value hops = count_all_sends c (local_send c d r value hops) l value hops

-- ---- messages
pub owed_one : (x : Run) (a r value hops : ℕ) (f : ℕ → ℕ) → Sent x (record { sender = a; receiver = r; sn = f r + 1; value = value; hops = hops }) → Owed x a (r ∷ []) value hops f
unfolding Owed
owed_one x a r value hops f h = (h, tt)

pub owed_sent : (x : Run) (c : ℕ) (d : Local) (l : List ℕ) (value hops : ℕ) → All (Sent x) (local_send_all c d l value hops).out → Owed x c l value hops d.sn
unfolding Owed local_send_all local_send
owed_sent x c d [] value hops h = tt
owed_sent x c d (r ∷ l) value hops h = (
  h _ (prefix_mem (send_all_grows c (local_send c d r value hops) l value hops).out (Memᴰ.append_right d.out (here refl))),
  owed_sent x c (local_send c d r value hops) l value hops h,
)

-- ---- receivers: whatever holds of all that a chare may send to holds of all that its outbox is to
module _ (P : ℕ → Type 0) (j : Job) (c : ℕ) (known : (hops : ℕ) → All P (receivers (ports j) c hops)) where
  send_all_to : (d : Local) (l : List ℕ) (value hops : ℕ) → All P l → All (λ m. P m.receiver) d.out → All (λ m. P m.receiver) (local_send_all c d l value hops).out
  unfolding local_send_all local_send
  send_all_to d [] value hops p h = h
  send_all_to d (r ∷ l) value hops p h = send_all_to (local_send c d r value hops) l value hops (λ b i. p b (there i)) (all_snoc d.out h (p r (here refl)))

  follow_to : (d : Local) (l : List Message) → All (λ m. P m.receiver) d.out → All (λ m. P m.receiver) (follow j c d l).out
  unfolding follow local_work
  follow_to d [] h = h
  follow_to d (m ∷ l) h = follow_to (local_work j c d m) l (send_all_to _ (receivers (ports j) c m.hops) _ (m.hops - 1) (known m.hops) h)

  pub folded_to : (l : List Message) → All (λ m. P m.receiver) (folded j c l).out
  unfolding folded local_start
  folded_to l = follow_to (local_start c) l (all_nil _)
