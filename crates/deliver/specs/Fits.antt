-- What a memory of any contents sends fits a word, and so does the answer under a packet's own name.
use Rattle.std.specs.Prelude.{◌≡◌, refl, Bool, true, false, List, ℕ, ◌%◌}
use Rattle.std.proofs.Common.{mod-eq_of_lt}
use Rattle.std.proofs.Math.Option.{Option, some, none}
use Rattle.lists.specs.Tests.{either}
use Rattle.protocol.specs.declared.Content.{Content}
use Rattle.protocol.specs.{declared.Content.TheVariants.{Ask as ASK, GrantOld as GRANT-old, GrantReceived as GRANT-received, GrantNew as GRANT-new, Data as DATA, Note as NOTE, Ack as ACK}}
use Rattle.protocol.specs.{declared.Entry.Entry, declared.Lookup.Lookup, declared.Lookup.TheVariants.{Missing, Ticketed, Unticketed}, declared.Message.Message}
use Rattle.protocol.specs.{declared.Packet.Packet, Parts.Memory}
use Rattle.packets.specs.{Words.{fit_content, fitted}, Fits.{Fits, fits_same}}
use Rattle.memory.specs.View.{memory_view, log_part}
use Rattle.deliver.specs.Effect.{Effect, effect, ask_effect, grant_of, new_ticket, unticketed, grant_old_effect, grant_received_effect, grant_new_effect, data_effect}
use Rattle.deliver.specs.Effect.{ack_effect}
use Rattle.logs.specs.Fits as logs

-- a reply as a word can hold it
unfoldable pub fit_reply : Option Content → Option Content
fit_reply none = none
fit_reply (some c) = some (fit_content c)

abbrev Sendable : Effect → Type 0
Sendable e = fit_reply e.reply ≡ e.reply

ask_fits : (m : Memory) (a n : ℕ) (o : Option Entry) (w : Bool) → Sendable (ask_effect m a n o w)
unfolding ask_effect grant_of new_ticket fit_reply fit_content
ask_fits m a n (some e) w = either e.received (λ q. rw q) (λ q. rw q)
ask_fits m a n none true = refl
ask_fits m a n none false = refl

data_fits : (m : Memory) (a n v h : ℕ) (o : Option Entry) → Sendable (data_effect m a n v h o)
unfolding data_effect fit_reply
data_fits m a n v h none = refl
data_fits m a n v h (some e) = either e.received (λ q. rw q) (λ q. rw q)

-- a GRANT, by what the log has
unticketed_fits : (d : Effect) (f : Message → Effect) (o : Lookup) → Sendable d → ((x : Message) → Unticketed x ≡ o → Sendable (f x)) → Sendable (unticketed d f o)
unfolding unticketed
unticketed_fits d f Missing p q = p
unticketed_fits d f Ticketed p q = p
unticketed_fits d f (Unticketed x) p q = q x refl

pub reply_fits : (ws : List ℕ) (p : Packet) (c : Content) → Sendable (effect (memory_view ws) p c)
unfolding effect grant_old_effect grant_received_effect grant_new_effect ack_effect fit_reply fit_content
reply_fits ws p ASK = ask_fits _ _ _ _ _
reply_fits ws p GRANT-old = unticketed_fits _ _ _ refl (λ x e. refl)
reply_fits ws p (GRANT-received t) = unticketed_fits _ _ _ refl (λ x e. refl)
reply_fits ws p (GRANT-new t) = unticketed_fits _ _ _ refl (λ x e. rw (mod-eq_of_lt (logs.unticketed_fits _ _ _ x (rw (log_part ws) at e)).hops))
reply_fits ws p (DATA v h) = data_fits _ _ _ _ _ _
reply_fits ws p (NOTE t) = refl
reply_fits ws p ACK = refl

-- the answer as a packet
pub answer_fits : (p : Packet) (c : Content) → Fits p → some (fit_content c) ≡ some c →
    fitted (record { sender = p.sender; receiver = p.receiver; sn = p.sn; content = c }) ≡ record { sender = p.sender; receiver = p.receiver; sn = p.sn; content = c }
answer_fits p c h f =
    let d : fit_content c ≡ c = cc in
    fits_same (record { sender = p.sender; receiver = p.receiver; sn = p.sn; content = c }) (record { sender = h.sender; receiver = h.receiver; sn = h.sn; content = d })

-- the hops of a DATA
pub hops_fit : (p : Packet) {v h : ℕ} → Fits p → p.content ≡ DATA v h → h % 8 ≡ h
unfolding fit_content
hops_fit p {v} {h} f e = let d : DATA v (h % 8) ≡ DATA v h = rw e at f.content in cc
