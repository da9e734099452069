-- `ask`: an entry found, the SN worked, a refusal, or a new ticket.
use Rattle.std.specs.Prelude.{◌≡◌, refl, ◌-◌, ◌<◌, length}
use Rattle.std.proofs.Common.{sym, ap, ◌∙◌, arith, mod-eq_of_lt, le-leb, lt-ltb, le-ltb}
use Rattle.std.proofs.lemmas.Bool.{lt-leb}
use Rattle.lists.specs.{Options.maybe, Questions.{ok, put_all}}
use Rattle.arrays.specs.Front.{push}
use Rattle.protocol.specs.{Parts.{number_limit, table_room}, Packets.is_worked, Window.worked}
use Rattle.protocol.specs.{Tickets.{entry, next_tn, new_tn, unreceived}, declared.Content.TheVariants.GrantNew as GRANT-new, declared.Rule.TheVariants.AskNew}
use Rattle.protocol.specs.declared.Refusal.TheVariants.{TooHigh, BeyondWindow, TableFull}
use Rattle.words.specs.Part.{part, part_length}
use Rattle.memory.specs.{Places.{TABLE, ROW}, View.{memory_view, table_part, table_changed}}
use Rattle.deliver.specs.{Effect.{answering, ask_questions, ask_effect, ask_new, entered}}
use Rattle.deliver.specs.{View.{effect_of, passes, stops}}
use Rattle.deliver.proofs.arrive.ask.Goals as goal

pub returns-in-Some : goal.returns-in-Some
unfolding effect_of ask_questions ask_effect put_all
returns-in-Some c =
    let a = c.args in
    let found = ap (λ l. entry l a.sender a.sn) (table_part a.m.now) ∙ sym c.find.ensures ∙ ap maybe c.in-Some.is in
    passes _ (rw (c.answering.ensures, c.grant_of.ensures, found))

pub returns-then-worked : goal.returns-then-worked
unfolding effect_of ask_questions ask_effect put_all is_worked
returns-then-worked c =
    let a = c.args in
    let found = ap (λ l. entry l a.sender a.sn) (table_part a.m.now) ∙ sym c.find.ensures ∙ ap maybe c.in_default.is in
    let was = sym (c.worked.ensures ∙ ap worked c.seen-seen.ensures) ∙ c.if-worked.true in
    passes _ (rw (c.answering-then-worked.ensures, found, was))

pub returns-then-tn-gt60000 : goal.returns-then-tn-gt60000
unfolding put_all new_tn is_worked
returns-then-tn-gt60000 c =
    let a = c.args in
    let v = memory_view a.m.now in
    let next = c.next_tn-tn.ensures ∙ (λ i. next_tn (c.height-height.ensures i) (c.top-top.ensures i) (sym (table_part a.m.now) i)) in
    let found = ap (λ l. entry l a.sender a.sn) (table_part a.m.now) ∙ sym c.find.ensures ∙ ap maybe c.in_default.is in
    let new = sym (c.worked.ensures ∙ ap worked c.seen-seen.ensures) ∙ c.if-worked.false in
    stops TooHigh (ask_new v a.sender a.sn next refl found new (lt-leb c.next_tn-tn.result number_limit (omega arith)) refl refl) refl

pub returns-then-not-admitted : goal.returns-then-not-admitted
unfolding put_all new_tn is_worked
returns-then-not-admitted c =
    let a = c.args in
    let v = memory_view a.m.now in
    let next = c.next_tn-tn.ensures ∙ (λ i. next_tn (c.height-height.ensures i) (c.top-top.ensures i) (sym (table_part a.m.now) i)) in
    let found = ap (λ l. entry l a.sender a.sn) (table_part a.m.now) ∙ sym c.find.ensures ∙ ap maybe c.in_default.is in
    let new = sym (c.worked.ensures ∙ ap worked c.seen-seen.ensures) ∙ c.if-worked.false in
    stops BeyondWindow (ask_new v a.sender a.sn next c.seen-seen.ensures found new
    (le-leb c.next_tn-tn.result number_limit (omega arith)) (sym c.admitted.ensures ∙ c.if-not-admitted.true) refl) refl

pub returns-then-count-ge16 : goal.returns-then-count-ge16
unfolding put_all new_tn is_worked
returns-then-count-ge16 c =
    let a = c.args in
    let v = memory_view a.m.now in
    let next = c.next_tn-tn.ensures ∙ (λ i. next_tn (c.height-height.ensures i) (c.top-top.ensures i) (sym (table_part a.m.now) i)) in
    let found = ap (λ l. entry l a.sender a.sn) (table_part a.m.now) ∙ sym c.find.ensures ∙ ap maybe c.in_default.is in
    let new = sym (c.worked.ensures ∙ ap worked c.seen-seen.ensures) ∙ c.if-worked.false in
    stops TableFull (ask_new v a.sender a.sn next c.seen-seen.ensures found new
    (le-leb c.next_tn-tn.result number_limit (omega arith)) (sym c.admitted.ensures ∙ c.if-not-admitted.false)
    (le-ltb (length v.table) table_room (rw table_part (omega (arith, c.count.ensures))))) refl

pub returns : goal.returns
unfolding effect_of put_all new_tn is_worked
returns c =
    let a = c.args in
    let v = memory_view a.m.now in
    let size = c.requires.m_len in
    let z : length (part TABLE ROW a.m.now) - 1 ≡ 16 = omega (arith, part_length TABLE ROW a.m.now (omega (arith, size))) in
    let room : length v.table < table_room = rw table_part (omega (arith, c.count.ensures)) in
    let next = c.next_tn-tn.ensures ∙ (λ i. next_tn (c.height-height.ensures i) (c.top-top.ensures i) (sym (table_part a.m.now) i)) in
    let found = ap (λ l. entry l a.sender a.sn) (table_part a.m.now) ∙ sym c.find.ensures ∙ ap maybe c.in_default.is in
    let new = sym (c.worked.ensures ∙ ap worked c.seen-seen.ensures) ∙ c.if-worked.false in
    passes _ (rw c.answering-2.ensures
    (ap (λ m. ok (answering AskNew m (GRANT-new c.next_tn-tn.result))) (table_changed a.m.now c.enter.new.ws size (omega arith) (λ l. push 16 l (unreceived a.sender a.sn c.next_tn-tn.result)) (rw (z, mod-eq_of_lt c.requires.sender_bound) at c.enter.ensures.row.items))
    ∙ ap ok (entered v a.sender a.sn next room)
    ∙ ask_new v a.sender a.sn next c.seen-seen.ensures found new
    (le-leb c.next_tn-tn.result number_limit (omega arith)) (sym c.admitted.ensures ∙ c.if-not-admitted.false) (lt-ltb _ table_room room)))
