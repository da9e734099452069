-- What one chare makes of a list of messages: its state, its SN counts and its outbox, all that it sent, in order.
use Rattle.std.specs.Prelude.{◌≡◌, refl, ◌≢◌, List, [], ◌∷◌, ◌++◌, ℕ, ◌+◌, ◌-◌, ◌≤◌, eqb}
use Rattle.std.proofs.Common.{sym, ap, ◌∙◌, subst, arith}
use mathlib.Core.List.Memᴰ
use mathlib.Core.List.Memᴰ.{head as here}
use mathlib.Core.List.Memᴰ.{tail as there}
use Rattle.std.proofs.lemmas.Bool.{eqb-false}
use Rattle.lists.specs.Tests.{either}
use Rattle.lists.specs.Map.{upd, upd_same, upd_ind}
use Rattle.lists.specs.Lists.{◌∈◌, All, all_nil, all_cons, all_append, all_snoc, Prefix, prefix_refl, prefix_trans, prefix_snoc}
use Rattle.protocol.specs.declared.Message.{Message}
use Rattle.protocol.specs.Parts.{Job}
use Rattle.protocol.specs.Work.{work, port, ports, receivers, sent_value}

pub record Local : Type 0 where
  pub state : ℕ
  pub sn : ℕ → ℕ
  pub out : List Message

-- chare c at the job
unfoldable pub local_start : ℕ → Local
local_start c = record { state = c; sn = λ _. 0; out = [] }

-- the next message of chare c to r
abbrev pub local_next : ℕ → Local → ℕ → ℕ → ℕ → Message
local_next c x r value hops = record { sender = c; receiver = r; sn = x.sn r + 1; value = value; hops = hops }

unfoldable pub local_send : ℕ → Local → ℕ → ℕ → ℕ → Local
local_send c x r value hops =
    record { state = x.state; sn = upd r (x.sn r + 1) x.sn; out = x.out ++ (local_next c x r value hops ∷ []) }

unfoldable pub local_send_all : ℕ → Local → List ℕ → ℕ → ℕ → Local
local_send_all c x [] value hops = x
local_send_all c x (r ∷ l) value hops = local_send_all c (local_send c x r value hops) l value hops

-- a message's value is worked
abbrev pub local_take : Local → Message → Local
local_take x m = record { state = work x.state m.value; sn = x.sn; out = x.out }

-- "state and sends follow Work, the chare as sender"
unfoldable pub local_work : Job → ℕ → Local → Message → Local
local_work j c x m =
    let y = local_take x m in
    local_send_all c y (receivers (ports j) c m.hops) (sent_value y.state) (m.hops - 1)

unfoldable pub follow : Job → ℕ → Local → List Message → Local
follow j c x [] = x
follow j c x (m ∷ l) = follow j c (local_work j c x m) l

unfoldable pub folded : Job → ℕ → List Message → Local
folded j c l = follow j c (local_start c) l

-- ---- step by step
-- sending leaves the state
pub local_send_all_state : (c : ℕ) (x : Local) (l : List ℕ) (value hops : ℕ) → (local_send_all c x l value hops).state ≡ x.state
unfolding local_send_all local_send
local_send_all_state c x [] value hops = refl
local_send_all_state c x (r ∷ l) value hops = local_send_all_state c (local_send c x r value hops) l value hops

pub local_work_sends : (j : Job) (c : ℕ) (x : Local) (m : Message)
    → local_work j c x m ≡ local_send_all c (local_take x m) (receivers (ports j) c m.hops) (sent_value (local_take x m).state) (m.hops - 1)
unfolding local_work
local_work_sends j c x m = refl

pub folded_nil : (j : Job) (c : ℕ) → folded j c [] ≡ local_start c
unfolding folded follow
folded_nil j c = refl

follow_append : (j : Job) (c : ℕ) (x : Local) (a b : List Message) → follow j c x (a ++ b) ≡ follow j c (follow j c x a) b
unfolding follow
follow_append j c x [] b = refl
follow_append j c x (m ∷ a) b = follow_append j c (local_work j c x m) a b

pub folded_append : (j : Job) (c : ℕ) (a b : List Message) → folded j c (a ++ b) ≡ follow j c (folded j c a) b
unfolding folded
folded_append j c a b = follow_append j c (local_start c) a b

pub folded_snoc : (j : Job) (c : ℕ) (l : List Message) (m : Message) → folded j c (l ++ (m ∷ [])) ≡ local_work j c (folded j c l) m
unfolding follow
folded_snoc j c l m = folded_append j c l (m ∷ [])

-- ---- what was sent stays sent
-- what stands in a beginning of a list stands in the list
pub prefix_mem : {A : Type 0} {p l : List A} → Prefix p l → {a : A} → a ∈ p → a ∈ l
prefix_mem h {a} i = subst (a ∈◌) (sym h.joined) (Memᴰ.append_left h.rest i)

pub record Grows (x y : Local) : Type 0 where
  pub out : Prefix x.out y.out
  pub sn : (r : ℕ) → x.sn r ≤ y.sn r

grows_refl : (x : Local) → Grows x x
grows_refl x = record { out = prefix_refl x.out; sn = λ r. omega arith }

grows_trans : {x y z : Local} → Grows x y → Grows y z → Grows x z
grows_trans p q = record { out = prefix_trans p.out q.out; sn = λ r. let a = p.sn r in let b = q.sn r in omega arith }

send_grows : (c : ℕ) (x : Local) (r value hops : ℕ) → Grows x (local_send c x r value hops)
unfolding local_send
send_grows c x r value hops = record {
  out = prefix_snoc _ (prefix_refl x.out);
  sn = upd_ind (λ b n. x.sn b ≤ n) r _ x.sn (omega arith) (λ b _. omega arith);
}

pub send_all_grows : (c : ℕ) (x : Local) (l : List ℕ) (value hops : ℕ) → Grows x (local_send_all c x l value hops)
unfolding local_send_all
send_all_grows c x [] value hops = grows_refl x
send_all_grows c x (r ∷ l) value hops =
    grows_trans (send_grows c x r value hops) (send_all_grows c (local_send c x r value hops) l value hops)

pub work_grows : (j : Job) (c : ℕ) (x : Local) (m : Message) → Grows x (local_work j c x m)
unfolding local_work
work_grows j c x m = let g = send_all_grows c (local_take x m) _ _ _ in record { out = g.out; sn = g.sn }

follow_grows : (j : Job) (c : ℕ) (x : Local) (l : List Message) → Grows x (follow j c x l)
unfolding follow
follow_grows j c x [] = grows_refl x
follow_grows j c x (m ∷ l) = grows_trans (work_grows j c x m) (follow_grows j c (local_work j c x m) l)

module _ (j : Job) (c : ℕ) {a b : List Message} (p : Prefix a b) where
  pub folded_grows : Grows (folded j c a) (folded j c b)
  folded_grows = subst (Grows (folded j c a)) (sym (ap (folded j c) p.joined ∙ folded_append j c a p.rest)) (follow_grows j c (folded j c a) p.rest)

  pub out_prefix : Prefix (folded j c a).out (folded j c b).out
  out_prefix = folded_grows.out

-- ---- what an outbox holds
-- a message of chare c that is within the counts of x, to a chare and not to the desk
pub record Mailed (c : ℕ) (x : Local) (m : Message) : Type 0 where
  pub from : m.sender ≡ c
  pub first : 1 ≤ m.sn
  pub last : m.sn ≤ x.sn m.receiver
  pub chare : m.receiver ≢ 0

mailed_more : (c : ℕ) {x y : Local} → Grows x y → (m : Message) → Mailed c x m → Mailed c y m
mailed_more c g m h = let k = g.sn m.receiver in record { from = h.from; first = h.first; last = omega arith; chare = h.chare }

port_chare : (r : ℕ) → All (λ n. n ≢ 0) (port r)
unfolding port
port_chare r = either (eqb r 0) (λ e. rw e (all_nil _)) (λ e. rw e (all_cons (eqb-false r 0 e) (all_nil _)))

-- Port 0 is none, so what a chare sends goes to chares, never to the desk.
pub receivers_chares : (j : Job) (c hops : ℕ) → All (λ n. n ≢ 0) (receivers (ports j) c hops)
unfolding receivers ports
receivers_chares j c hops = either (eqb hops 0)
    (λ e. rw e (all_nil _))
    (λ e. rw e (all_append (port (j.first c)) (port_chare (j.first c)) (port_chare (j.second c))))

send_mailed : (c : ℕ) (x : Local) (r value hops : ℕ) → r ≢ 0 → All (Mailed c x) x.out → All (Mailed c (local_send c x r value hops)) (local_send c x r value hops).out
unfolding local_send
send_mailed c x r value hops e h = all_snoc x.out
    (λ m i. mailed_more c (send_grows c x r value hops) m (h m i))
    (record { from = refl; first = omega arith; last = rw upd_same (omega arith); chare = e })

pub send_all_mailed : (c : ℕ) (x : Local) (l : List ℕ) (value hops : ℕ) → All (λ r. r ≢ 0) l → All (Mailed c x) x.out
    → All (Mailed c (local_send_all c x l value hops)) (local_send_all c x l value hops).out
unfolding local_send_all
send_all_mailed c x [] value hops e h = h
send_all_mailed c x (r ∷ l) value hops e h =
    send_all_mailed c (local_send c x r value hops) l value hops (λ b i. e b (there i)) (send_mailed c x r value hops (e r (here refl)) h)

work_mailed : (j : Job) (c : ℕ) (x : Local) (m : Message) → All (Mailed c x) x.out → All (Mailed c (local_work j c x m)) (local_work j c x m).out
unfolding local_work
work_mailed j c x m h = send_all_mailed c (local_take x m) _ _ _ (receivers_chares j c m.hops)
    (λ k i. let g = h k i in record { from = g.from; first = g.first; last = g.last; chare = g.chare })

follow_mailed : (j : Job) (c : ℕ) (x : Local) (l : List Message) → All (Mailed c x) x.out → All (Mailed c (follow j c x l)) (follow j c x l).out
unfolding follow
follow_mailed j c x [] h = h
follow_mailed j c x (m ∷ l) h = follow_mailed j c (local_work j c x m) l (work_mailed j c x m h)

pub folded_mailed : (j : Job) (c : ℕ) (l : List Message) → All (Mailed c (folded j c l)) (folded j c l).out
unfolding folded local_start
folded_mailed j c l = follow_mailed j c (local_start c) l (all_nil _)
