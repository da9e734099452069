-- What the answers of this crate's functions mean.
use Rattle.std.specs.Prelude.{◌≡◌, List, [], ℕ, Option, None, Some, Result, Ok, Err}
use Rattle.std.proofs.Common.{arith}
use Rattle.lists.specs.{Options.maybe, Questions.{Question, Result as Judged, ok, refuse, put_all}}
use Rattle.arrays.specs.Front.{push}
use Rattle.protocol.specs.{declared.Content.Content, declared.Packet.Packet, declared.Refusal.Refusal, Numbers.number, Parts.{Memory, wire_room}}
use Rattle.words.specs.{Rows.without, Becomes.Becomes}
use Rattle.item.specs.{declared.Item.Item, Item.items}
use Rattle.packets.specs.{Words.{fitted, packets}, Packing.packed, declared.Name.Name}
use Rattle.memory.specs.View.{memory_view}
use Rattle.deliver.specs.{declared.arrive.Done.Done, Effect.{Effect, effect, effect_questions}}

-- the memory after a packet, the rule used and the reply
unfoldable pub effect_of : List ℕ → Done → Effect
effect_of ws d = record { memory = memory_view ws; rule = d.rule; reply = maybe d.reply }

-- the numbers of a frame are those of a packet's name
pub record Names (k a r n : ℕ) (x : Name) : Type 0 where
  pub kind : x.kind ≡ k
  pub sender : x.sender ≡ a
  pub receiver : x.receiver ≡ r
  pub sn : x.sn ≡ n

-- The wire with an answer under the packet's own name, where there is room.
unfoldable pub answered : List Packet → Packet → Option Content → List Packet
answered l p None = l
answered l p (Some c) = push wire_room l (fitted (record { sender = p.sender; receiver = p.receiver; sn = p.sn; content = c }))

-- bit by bit
unfoldable pub answered_words : List Item → Packet → Option Content → List Item
answered_words l p None = l
answered_words l p (Some c) = push wire_room l (packed (record { sender = p.sender; receiver = p.receiver; sn = p.sn; content = c }))

-- The packet at a place leaves the wire, and then the answer goes on it.
pub record Answering (before after : List ℕ) (at : ℕ) (p : Packet) (r : Option Content) : Type 0 where
  pub left : List ℕ
  pub off : Becomes packets before left (without at (packets before))
  pub on : Becomes packets left after (answered (without at (packets before)) p r)
  pub words : items after ≡ answered_words (without at (items before)) p r

-- refused by its number, or f of what it gives
abbrev pub by_result : {A X : Type 0} → (A → X) → Result A Refusal → Judged X
by_result f (Ok x) = ok (f x)
by_result f (Err e) = refuse (number e)

-- The questions from 7 on are put to words: the first "no" is the error, or else f of the result, which the words now mean, is what should follow.
-- A refusal leaves every word as it was.
pub record Asked {A X : Type 0} (questions : List Question) (next : X) (f : A → X) (before after : List ℕ) (r : Result A Refusal) : Type 0 where
  pub gives : by_result f r ≡ put_all questions next
  pub stays : (e : Refusal) → r ≡ Err e → after ≡ before

module _ {A X : Type 0} {questions : List Question} {next : X} {f : A → X} {before after : List ℕ} where
  pub passes : (x : A) → ok (f x) ≡ put_all questions next → Asked questions next f before after (Ok x)
  passes x q = record { gives = q; stays = λ e w. absurd (let z : ◌≡◌ {A = ℕ} 0 1 = cc in omega arith) }

  pub stops : (e : Refusal) → refuse (number e) ≡ put_all questions next → after ≡ before → Asked questions next f before after (Err e)
  stops e q s = record { gives = q; stays = λ _ _. s }

-- a packet of the content c, to which no question is put
pub did : (m : Memory) (p : Packet) {c d : Content} → d ≡ c → (before after : List ℕ) (y : Done) → effect_questions m p c ≡ []
    → effect_of after y ≡ effect m p c → Asked (effect_questions m p d) (effect m p d) (effect_of after) before after (Ok y)
unfolding put_all
did m p is_c before after y q h = rw is_c (passes y (rw (q, h)))
