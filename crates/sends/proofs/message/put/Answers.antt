-- `put`: a packet more at the end of the wire, or the wire as it was.
use Rattle.std.specs.Prelude.{length, ◌-◌, ◌<◌, ◌≡◌, refl}
use Rattle.std.proofs.Common.{arith, ◌∙◌, rules, inl, inr}
use Rattle.sends.specs.{Ticket.{wire_by, to_words}, InMemory.about_fits}
use Rattle.words.specs.Becomes.{becomes_same, becomes_as}
use Rattle.packets.specs.Words.{fit_content, packets}
use Rattle.protocol.specs.declared.Content.TheVariants.{Ask, Note}
use Rattle.sends.proofs.message.put.Goals as goal

pub returns-in-Remote : goal.returns-in-Remote
unfolding wire_by to_words fit_content
returns-in-Remote c =
    let a = c.args in
    let n : length a.ws.now - 1 ≡ 128 = omega (arith, c.requires.ws_len) in
    rw c.in-Remote.is (record {
      row = becomes_as packets c.join.ensures.row (rw (n, c.about.ensures, about_fits a.m Ask c.requires.sender_bound.0 c.requires.sender_bound.1 ((let h : c.args.m.sn < 65536 = search rules in h)) refl));
      words = c.join.ensures.words ∙ rw (n, c.about.ensures);
    })

pub returns-in-New : goal.returns-in-New
unfolding wire_by to_words fit_content
returns-in-New c =
    let a = c.args in
    let n : length a.ws.now - 1 ≡ 128 = omega (arith, c.requires.ws_len) in
    rw c.in-New.is (record {
      row = becomes_as packets c.join-in-New.ensures.row (rw (n, c.about-in-New.ensures, about_fits a.m (Note _) c.requires.sender_bound.0 c.requires.sender_bound.1 ((let h : c.args.m.sn < 65536 = search rules in h)) refl));
      words = c.join-in-New.ensures.words ∙ rw (n, c.about-in-New.ensures);
    })

-- without a packet
pub returns-in-Found : goal.returns-in-Found
returns-in-Found c = elim c.in-Found.is [
  | inl e ↦ unfold wire_by to_words in rw e.1 (record { row = becomes_same packets _ refl; words = refl })
  | inr e ↦ unfold wire_by to_words in rw e (record { row = becomes_same packets _ refl; words = refl })
]
