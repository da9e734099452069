-- Frame 11 judged, in the definitions' state: by its first questions, by the packet found, and by what the packet does.
use Rattle.std.specs.Prelude.{◌≡◌, refl, true, false, List, [], ◌∷◌, ◌++◌, ℕ}
use Rattle.std.proofs.Common.{sym, ap, ◌∙◌}
use Rattle.std.proofs.Math.Option.{some, none}
use Rattle.lists.specs.{Lists.remove1, Questions.{Question, ◌asks◌, put_all, first_no, first_no_yes, put_no, put_after}}
use Rattle.protocol.specs.{declared.Rule.TheVariants.Other, declared.Answer.TheVariants.Refused, declared.Packet.Packet, declared.Content.TheVariants.Note as NOTE, Parts.{State, up}}
use Rattle.protocol.specs.{Packets.{is_named, store_note, arrive, rule_of, deliver}, Step.{Outcome, judged}}
use Rattle.protocol.specs.Questions.{is_chare, is_sender, on_wire, packet_questions, deliver_questions}
use Rattle.words.specs.Rows.{without}
use Rattle.head.specs.Head.{runs}
use Rattle.store.specs.View.{done}
use Rattle.deliver.specs.{Effect.place_of, NoteEffect.note_effect}
use Rattle.deliver.specs.{Arrival.{put_effect, put_notes, arrive_back, rule_back, arrive_questioned, note_questioned}}
use Rattle.deliver.specs.{Frame.{in_range, first_questions, delivered, then, taken_off, chare_outcome, note_outcome}}

put_then : {S T : Type 0} (f : S → T) (l : List Question) (x : S) → put_all l (f x) ≡ then f (put_all l x)
unfolding put_all then
put_then f [] x = refl
put_then f (n asks true ∷ l) x = put_then f l x
put_then f (n asks false ∷ l) x = refl

module _ (s : State) (k a r n : ℕ) where
  -- what the contract says of the frame
  abbrev pub the_outcome : Outcome
  the_outcome = judged s (put_all (deliver_questions s k a r n) (delivered s k a r n (on_wire s k a r n)))

  abbrev pub firsts : ℕ
  firsts = first_no (first_questions s.job s.lost s.status k a r n)

  -- questions 2 to 5, and those to the packet
  module _ (o : Outcome) where
    in_parts : judged s (put_all (deliver_questions s k a r n) o)
        ≡ judged s (put_all (first_questions s.job s.lost s.status k a r n ++ packet_questions s (on_wire s k a r n)) o)
    unfolding deliver_questions first_questions in_range runs is_sender is_chare up
    in_parts = refl

    passed : firsts ≡ 0 → judged s (put_all (deliver_questions s k a r n) o) ≡ judged s (put_all (packet_questions s (on_wire s k a r n)) o)
    unfolding first_questions
    passed clear =
        let l = first_questions s.job s.lost s.status k a r n in
        in_parts ∙ ap (judged s) (put_after l (packet_questions s (on_wire s k a r n)) o (first_no_yes l refl clear))

  pub refused_first : (firsts ≡ 0 → ⊥) → the_outcome ≡ record { state = s; answer = Refused firsts }
  unfolding judged
  refused_first h = in_parts _ ∙ ap (judged s) (put_no (first_questions s.job s.lost s.status k a r n) (packet_questions s (on_wire s k a r n)) _ h)

  module _ (clear : firsts ≡ 0) where
    pub refused_missing : on_wire s k a r n ≡ none → the_outcome ≡ record { state = s; answer = Refused 6 }
    unfolding judged packet_questions put_all
    refused_missing e = passed _ clear ∙ rw e

    -- the packet p is found, at a place
    module _ {p : Packet} (found : on_wire s k a r n ≡ some p) (at : ℕ) (left : remove1 (is_named k a r n) s.wire ≡ without at s.wire) where
      judged_packet : the_outcome ≡ judged s (put_all (packet_questions s (some p)) (done (rule_of s p p.content) (arrive (taken_off s at) p p.content)))
      unfolding delivered deliver
      judged_packet = passed _ clear ∙ rw (found, left)

      -- what follows is f of what a part of the state gives
      by_part : {X : Type 0} (f : X → Outcome) (x : X) (l : List Question) → ((o : Outcome) → put_all (packet_questions s (some p)) o ≡ put_all l o)
          → done (rule_of s p p.content) (arrive (taken_off s at) p p.content) ≡ f x → judged s (then f (put_all l x)) ≡ the_outcome
      by_part f x l h e = sym (judged_packet ∙ ap (judged s) (h _ ∙ rw e (put_then f l x)))

      -- at the memory of a chare
      pub judged_chare : ((t : ℕ) → p.content ≡ NOTE t → ⊥) → (c : ℕ) → c ≡ place_of p p.content → chare_outcome s c at p ≡ the_outcome
      unfolding chare_outcome
      judged_chare other c e = rw e (by_part (λ y. done y.rule (put_effect (taken_off s at) (place_of p p.content) p y)) _ _
          (λ o. arrive_questioned s p o p.content refl other) (rw (rule_back s p p.content, arrive_back (taken_off s at) p p.content other)))

      -- at the note list of the receiver's machine
      pub judged_note : {t : ℕ} → p.content ≡ NOTE t → note_outcome s at p t ≡ the_outcome
      unfolding note_outcome arrive rule_of store_note put_notes note_effect
      judged_note is-note = by_part (λ y. done Other (put_notes (taken_off s at) (s.job.home p.receiver) p y)) _ _ (λ o. note_questioned s p o is-note) (rw is-note)
