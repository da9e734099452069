-- Steps that leave the job, the status of every machine, the lost flag and the heights: what the history says stays.
use Rattle.std.specs.Prelude.{◌≡◌, refl, Bool, true, false, List, [], ◌∷◌, ℕ, take}
use Rattle.std.proofs.Common.{sym, ap, ◌∙◌}
use Rattle.std.proofs.Math.Option.{Option, some, none}
use Rattle.lists.specs.Tests.{either}
use Rattle.lists.specs.Map.{upd_ind}
use Rattle.protocol.specs.declared.Message.{Message}
use Rattle.protocol.specs.declared.Entry.{Entry}
use Rattle.protocol.specs.declared.Packet.{Packet}
use Rattle.protocol.specs.declared.Content.{Content}
use Rattle.protocol.specs.declared.Content.TheVariants.{Ask as ASK, GrantOld as GRANT-old, GrantReceived as GRANT-received, GrantNew as GRANT-new, Data as DATA, Note as NOTE, Ack as ACK}
use Rattle.protocol.specs.declared.Lookup.{Lookup}
use Rattle.protocol.specs.declared.Lookup.TheVariants.{Missing, Ticketed, Unticketed}
use Rattle.protocol.specs.Parts.{Memory, State}
use Rattle.protocol.specs.Setters.{with_memory}
use Rattle.protocol.specs.Sending.{is_local, put, next_message, log_message, send_remote, send_local, send_message, send, send_all}
use Rattle.protocol.specs.Packets.{reply, new_table, new_log, ask, grant_old, grant_received, grant_new, data_in, store_note, ack, arrive, deliver}
use Rattle.protocol.specs.CrashFree.{Run}
use Rattle.protocol.specs.History.{History}
use Rattle.protocol.proofs.Recovery.Invariant.Good.{Told}

pub record Calm (s t : State) : Type 0 where
  pub job : t.job ≡ s.job
  pub status : t.status ≡ s.status
  pub lost : t.lost ≡ s.lost
  pub heights : (c : ℕ) → (t.live c).height ≡ (s.live c).height

pub calm_refl : (s : State) → Calm s s
calm_refl s = record { job = refl; status = refl; lost = refl; heights = λ c. refl }

pub calm_trans : {s t u : State} → Calm s t → Calm t u → Calm s u
calm_trans a b = record { job = b.job ∙ a.job; status = b.status ∙ a.status; lost = b.lost ∙ a.lost; heights = λ c. b.heights c ∙ a.heights c }

pub calm_told : {s t : State} {h : History} {x : Run} {stable : ℕ → ℕ} → Calm s t → Told s h x stable → Told t h x stable
calm_told {s} {t} {h} {x} {stable} k told = record {
  sequence = λ c chare up. told.sequence c (λ e. chare (ap (λ j. j.home c) k.job ∙ e))
      (λ e. up (ap (λ j. t.status (j.home c)) k.job ∙ ap (λ f. f (s.job.home c)) k.status ∙ e))
      ∙ ap (λ n. take n (x.worked c)) (sym (k.heights c));
  saved = λ c chare. told.saved c (λ e. chare (ap (λ j. j.home c) k.job ∙ e));
  nobody = λ c e. told.nobody c (ap (λ j. j.home c) (sym k.job) ∙ e);
}

-- one memory changes, and its height stays
calm_memory : (s : State) (c : ℕ) (m : Memory) → m.height ≡ (s.live c).height → Calm s (with_memory s c m)
calm_memory s c m e = record { job = refl; status = refl; lost = refl; heights = λ b. upd_ind (λ b (k : Memory). k.height ≡ (s.live b).height) c m s.live e (λ b _. refl) b }

-- ---- sending
calm_log : (s : State) (m : Message) (t : ℕ) → Calm s (log_message s m t)
unfolding log_message
calm_log s m t = calm_memory s m.sender _ refl

calm_put : {s t : State} → Calm s t → (y : Packet) → Calm s (put t y)
unfolding put
calm_put k y = record { job = k.job; status = k.status; lost = k.lost; heights = k.heights }

calm_local : (s : State) (m : Message) (o : Option Entry) → Calm s (send_local s m o)
unfolding send_local
calm_local s m (some e) = calm_trans (calm_memory s m.receiver _ refl) (calm_log _ m e.tn)
calm_local s m none = calm_put (calm_trans (calm_memory s m.receiver _ refl) (calm_log _ m _)) _

pub calm_send : (s : State) (a b value hops : ℕ) → Calm s (send s a b value hops)
unfolding send send_message send_remote
calm_send s a b value hops =
    let m = next_message s a b value hops in
    either (is_local s.job m.sender m.receiver) (λ e. rw e (calm_local s m _)) (λ e. rw e (calm_put (calm_log s m 0) _))

pub calm_send_all : (s : State) (a : ℕ) (l : List ℕ) (value hops : ℕ) → Calm s (send_all s a l value hops)
unfolding send_all
calm_send_all s a [] value hops = calm_refl s
calm_send_all s a (b ∷ l) value hops = calm_trans (calm_send s a b value hops) (calm_send_all (send s a b value hops) a l value hops)

-- ---- delivering
calm_reply : {s t : State} → Calm s t → (y : Packet) (c : Content) → Calm s (reply t y c)
unfolding reply
calm_reply k y c = calm_put k _

calm_table : (s : State) (r : ℕ) (l : List Entry) → Calm s (new_table s r l)
unfolding new_table
calm_table s r l = calm_memory s r _ refl

calm_ask : (s : State) (y : Packet) (o : Option Entry) (w : Bool) → Calm s (ask s y o w)
unfolding ask
calm_ask s y (some e) w = calm_reply (calm_refl s) y _
calm_ask s y none true = calm_reply (calm_refl s) y _
calm_ask s y none false = calm_reply (calm_table s y.receiver _) y _

calm_old : (s : State) (y : Packet) (o : Lookup) → Calm s (grant_old s y o)
unfolding grant_old new_log
calm_old s y Missing = calm_refl s
calm_old s y Ticketed = calm_refl s
calm_old s y (Unticketed m) = calm_memory s y.sender _ refl

calm_received : (s : State) (y : Packet) (t : ℕ) (o : Lookup) → Calm s (grant_received s y t o)
unfolding grant_received new_log
calm_received s y t Missing = calm_refl s
calm_received s y t Ticketed = calm_refl s
calm_received s y t (Unticketed m) = calm_memory s y.sender _ refl

calm_new : (s : State) (y : Packet) (t : ℕ) (o : Lookup) → Calm s (grant_new s y t o)
unfolding grant_new
calm_new s y t Missing = calm_refl s
calm_new s y t Ticketed = calm_refl s
calm_new s y t (Unticketed m) = calm_reply (calm_received s y t (Unticketed m)) y _

calm_data : (s : State) (y : Packet) (v h : ℕ) (o : Option Entry) → Calm s (data_in s y v h o)
unfolding data_in
calm_data s y v h none = calm_refl s
calm_data s y v h (some e) = either e.received (λ z. rw z (calm_refl s)) (λ z. rw z (calm_table s y.receiver _))

calm_arrive : (s : State) (y : Packet) (c : Content) → Calm s (arrive s y c)
unfolding arrive store_note ack
calm_arrive s y ASK = calm_ask s y _ _
calm_arrive s y GRANT-old = calm_old s y _
calm_arrive s y (GRANT-received t) = calm_received s y t _
calm_arrive s y (GRANT-new t) = calm_new s y t _
calm_arrive s y (DATA v h) = calm_data s y v h _
calm_arrive s y (NOTE t) = calm_reply (record { job = refl; status = refl; lost = refl; heights = λ c. refl }) y ACK
calm_arrive s y ACK = calm_table s y.receiver _

pub calm_deliver : (s : State) (k a r n : ℕ) (y : Packet) → Calm s (deliver s k a r n y)
unfolding deliver
calm_deliver s k a r n y = calm_trans (record { job = refl; status = refl; lost = refl; heights = λ c. refl }) (calm_arrive _ y y.content)
