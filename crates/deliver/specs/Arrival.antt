-- A packet that arrives, in the definitions' state: one memory or one note list changes, and an answer goes to the end of the wire.
use Rattle.std.specs.Prelude.{◌≡◌, refl, Bool, true, false, List, ℕ}
use Rattle.std.proofs.Common.{sym, ap, ◌∙◌}
use Rattle.std.proofs.Math.Bool.{and-true}
use Rattle.std.proofs.Math.Option.{Option, some, none}
use Rattle.lists.specs.{Tests.either, Map.{upd, upd_self}, Questions.put_all}
use Rattle.protocol.specs.{declared.Entry.Entry, declared.Message.Message, declared.Note.Note, declared.Packet.Packet, declared.Content.Content, declared.Rule.Rule}
use Rattle.protocol.specs.{declared.Content.TheVariants.{Ask as ASK, GrantOld as GRANT-old, GrantReceived as GRANT-received, GrantNew as GRANT-new, Data as DATA, Note as NOTE, Ack as ACK}}
use Rattle.protocol.specs.{declared.Lookup.Lookup, declared.Lookup.TheVariants.{Missing, Ticketed, Unticketed}, declared.Rule.TheVariants.GrantDropped, Parts.{Memory, State}, Setters.{with_live, with_memory, with_notes}}
use Rattle.protocol.specs.{Packets.{kind, is_worked, reply, new_table, new_log, ask, grant_old, grant_received, grant_new, data_in, ack, entry_of, lookup_of, arrive, ask_rule, grant_rule, data_rule, rule_of}}
use Rattle.protocol.specs.{Packets.{tn_of, note_of, has_note}, Questions.{no_entry, needs_ticket, needs_note, ticket_fits, ticket_admitted, ticket_has_room, packet_questions}}
use Rattle.deliver.specs.{Effect.{Effect, quiet, grant_of, new_ticket, ask_effect, ask_questions, unticketed}}
use Rattle.deliver.specs.{Effect.{grant_old_effect, grant_received_effect, grant_new_effect, data_effect, ack_effect, effect, effect_questions, place_of}}
use Rattle.deliver.specs.NoteEffect.{note_questions}

unfoldable pub with_reply : State → Packet → Option Content → State
with_reply s p none = s
with_reply s p (some c) = reply s p c

-- an effect on the memory of chare c, put back
unfoldable pub put_effect : State → ℕ → Packet → Effect → State
put_effect s c p e = with_reply (with_memory s c e.memory) p e.reply

-- a note list for machine h, put back
unfoldable pub put_notes : State → ℕ → Packet → List Note → State
put_notes s h p l = reply (with_notes s (upd h l s.notes)) p ACK

-- a memory that stays
stays : (s : State) (c : ℕ) (p : Packet) (u : Rule) (r : Option Content) → with_reply s p r ≡ put_effect s c p (record { memory = s.live c; rule = u; reply = r })
unfolding put_effect
stays s c p u r = ap (λ t. with_reply t p r) (sym (ap (with_live s) (upd_self c s.live)))

-- ---- the rule used, of each content
ask_rules : (m : Memory) (a n : ℕ) (o : Option Entry) (w : Bool) → ask_rule o w ≡ (ask_effect m a n o w).rule
unfolding ask_rule ask_effect new_ticket
ask_rules m a n (some e) w = refl
ask_rules m a n none true = refl
ask_rules m a n none false = refl

grant_rules : (u : Rule) (m : Memory) (f : Message → Effect) → ((x : Message) → u ≡ (f x).rule) → (o : Lookup) → grant_rule u o ≡ (unticketed (quiet GrantDropped m) f o).rule
unfolding grant_rule unticketed
grant_rules u m f h Missing = refl
grant_rules u m f h Ticketed = refl
grant_rules u m f h (Unticketed x) = h x

data_rules : (m : Memory) (a n v h : ℕ) (o : Option Entry) → data_rule o ≡ (data_effect m a n v h o).rule
unfolding data_rule data_effect
data_rules m a n v h none = refl
data_rules m a n v h (some e) = either e.received (λ q. rw q) (λ q. rw q)

-- ---- each content
module _ (s : State) (p : Packet) where
  asks_back : (o : Option Entry) (w : Bool) → ask s p o w ≡ put_effect s p.receiver p (ask_effect (s.live p.receiver) p.sender p.sn o w)
  unfolding ask ask_effect grant_of with_reply
  asks_back (some e) w = stays s p.receiver p _ (some _)
  asks_back none true = stays s p.receiver p _ (some _)
  asks_back none false = unfold new_ticket new_table put_effect in refl

  -- a GRANT: f is what it does with a message without a TN
  grants_back : (g : Lookup → State) (f : Message → Effect) → g Missing ≡ s → g Ticketed ≡ s → ((x : Message) → g (Unticketed x) ≡ put_effect s p.sender p (f x))
      → (o : Lookup) → g o ≡ put_effect s p.sender p (unticketed (quiet GrantDropped (s.live p.sender)) f o)
  unfolding unticketed with_reply
  grants_back g f m t h Missing = m ∙ stays s p.sender p _ none
  grants_back g f m t h Ticketed = t ∙ stays s p.sender p _ none
  grants_back g f m t h (Unticketed x) = h x

  data_back : (v h : ℕ) (o : Option Entry) → data_in s p v h o ≡ put_effect s p.receiver p (data_effect (s.live p.receiver) p.sender p.sn v h o)
  unfolding data_in data_effect with_reply
  data_back v h none = stays s p.receiver p _ none
  data_back v h (some e) = either e.received
      (λ q. rw q (stays s p.receiver p _ none))
      (λ q. rw q (unfold new_table put_effect in refl))

  pub arrive_back : (c : Content) → ((t : ℕ) → c ≡ NOTE t → ⊥) → arrive s p c ≡ put_effect s (place_of p c) p (effect (s.live (place_of p c)) p c)
  unfolding arrive effect place_of kind entry_of lookup_of grant_old grant_received grant_new new_log grant_old_effect grant_received_effect grant_new_effect put_effect with_reply
  arrive_back ASK n = asks_back _ _
  arrive_back GRANT-old n = grants_back (grant_old s p) _ refl refl (λ x. refl) _
  arrive_back (GRANT-received t) n = grants_back (grant_received s p t) _ refl refl (λ x. refl) _
  arrive_back (GRANT-new t) n = grants_back (grant_new s p t) _ refl refl (λ x. refl) _
  arrive_back (DATA v h) n = data_back v h _
  arrive_back (NOTE t) n = absurd (n t refl)
  arrive_back ACK n = unfold ack ack_effect new_table in refl

  -- ---- the rule used
  pub rule_back : (c : Content) → rule_of s p c ≡ (effect (s.live (place_of p c)) p c).rule
  unfolding rule_of effect place_of kind entry_of lookup_of
  rule_back ASK = ask_rules (s.live p.receiver) _ _ _ _
  rule_back GRANT-old = unfold grant_old_effect in grant_rules _ _ _ (λ x. refl) _
  rule_back (GRANT-received t) = unfold grant_received_effect in grant_rules _ _ _ (λ x. refl) _
  rule_back (GRANT-new t) = unfold grant_new_effect in grant_rules _ _ _ (λ x. refl) _
  rule_back (DATA v h) = data_rules (s.live p.receiver) _ _ v h _
  rule_back (NOTE t) = refl
  rule_back ACK = unfold ack_effect in refl

  -- ---- the questions put to the packet found are those of the part of the state that it is for
  module _ {S : Type 0} (r : S) where
    ask_questioned : (o : Option Entry) (w : Bool) → p.content ≡ ASK → entry_of s p ≡ o → is_worked (s.live p.receiver) p.sender p.sn ≡ w
        → put_all (packet_questions s (some p)) r ≡ put_all (ask_questions (s.live p.receiver) p.sender p.sn o w) r
    unfolding packet_questions ticket_fits ticket_admitted ticket_has_room needs_ticket needs_note no_entry kind entry_of ask_questions put_all
    ask_questioned (some e) w k h g = rw (k, h)
    ask_questioned none true k h g = rw (k, h, g)
    ask_questioned none false k h g = rw (k, h, g, and-true)

    pub arrive_questioned : (c : Content) → p.content ≡ c → ((t : ℕ) → c ≡ NOTE t → ⊥)
        → put_all (packet_questions s (some p)) r ≡ put_all (effect_questions (s.live (place_of p c)) p c) r
    unfolding packet_questions ticket_fits ticket_admitted ticket_has_room needs_ticket needs_note kind effect_questions place_of put_all
    arrive_questioned ASK k n = unfold entry_of in ask_questioned _ _ k refl refl
    arrive_questioned GRANT-old k n = rw k
    arrive_questioned (GRANT-received t) k n = rw k
    arrive_questioned (GRANT-new t) k n = rw k
    arrive_questioned (DATA v h) k n = rw k
    arrive_questioned (NOTE t) k n = absurd (n t refl)
    arrive_questioned ACK k n = rw k

    pub note_questioned : {t : ℕ} → p.content ≡ NOTE t
        → put_all (packet_questions s (some p)) r ≡ put_all (note_questions (s.notes (s.job.home p.receiver)) (note_of p t)) r
    unfolding packet_questions ticket_fits ticket_admitted ticket_has_room needs_ticket needs_note kind tn_of note_of note_questions put_all
    note_questioned {t} k = either (has_note (s.notes (s.job.home p.receiver)) (note_of p t)) (λ q. rw (k, q)) (λ q. rw (k, q))
