-- `deliver`: the first questions, the packet, and where it goes; each law of `Whole` is one way out.
use Rattle.std.specs.Prelude.{◌≡◌, refl, cond, eqb, List, ℕ, Option, None}
use Rattle.std.proofs.Common.{sym, ◌∙◌, rules, eq-eqb, ne_eqb}
use Rattle.std.proofs.lemmas.Result.{err_from_is_err_and}
use Rattle.protocol.specs.{declared.Refusal.TheVariants.Missing, Numbers.{number_not_zero, refused_by, passed}, Packets.is_named}
use Rattle.packets.specs.{Words.packets, View.sought, declared.Found.Found, declared.Name.Name}
use Rattle.deliver.specs.{View.Names, Whole.{frame_refused, frame_missing, waiting, place_fits, to_chare, to_notes}}
use Rattle.deliver.proofs.deliver.Goals as goal
use Rattle.deliver.proofs.deliver.Goals.{then-kind-number, else-kind-number}

-- what is found by a name is found by its numbers
finds : {k a r n : ℕ} {x : Name} → Names k a r n x → (ws : List ℕ) {f : Option Found} → f ≡ sought (is_named x.kind x.sender x.receiver x.sn) (packets ws) → f ≡ sought (is_named k a r n) (packets ws)
finds h ws e = rw (h.kind, h.sender, h.receiver, h.sn) at e

pub returns-in_err-name : goal.returns-in_err-name
returns-in_err-name c =
    let p = err_from_is_err_and c.from_residual.result c.from_residual.ensures.1 in
    rw (p.1, p.2) (frame_refused _ _ _ _ _ _ (refused_by _ c.judge.ensures.asked c.in_err-name.was) (number_not_zero _))

pub returns-in_err-place : goal.returns-in_err-place
returns-in_err-place c =
    let p = err_from_is_err_and c.from_residual-in_err-place.result c.from_residual-in_err-place.ensures.1 in
    let gone : c.find.result ≡ None = c.in_err-place.ensures.ok_part in
    let why : c.in_err-place.field-0.0 ≡ Missing = search rules in
    rw (p.1, p.2, why)
    (frame_missing _ _ _ _ _ _ (passed _ c.judge.ensures.asked c.in_ok-name.was) refl _ (finds c.in_ok-name.ensures.named _ c.find.ensures) gone)

pub deliver_note-requires : goal.deliver_note-requires
deliver_note-requires c =
    waiting _ _ _ _ _ _ (passed _ c.judge.ensures.asked c.in_ok-name.was) refl _ (finds c.in_ok-name.ensures.named _ c.find.ensures) c.in_ok-place.ensures.ok_part

pub returns-in-Note : goal.returns-in-Note
returns-in-Note c =
    to_notes _ _ _ _ _ _ (passed _ c.judge.ensures.asked c.in_ok-name.was) refl _ (finds c.in_ok-name.ensures.named _ c.find.ensures) c.in_ok-place.ensures.ok_part _ _ c.in-Note.is c.deliver_note.ensures

pub deliver_to-requires : goal.deliver_to-requires
deliver_to-requires c =
    let to : c.if-kind-number.to ≡ cond (eqb c.args.kind 2) c.args.sender c.args.receiver =
    elim c.if-kind-number.branch [
      | then-kind-number w ↦ w.to-is ∙ rw (eq-eqb _ 2 (w.if-kind-number.true ∙ c.number.ensures))
      | else-kind-number w ↦ w.to-is ∙ rw (ne_eqb _ 2 (λ e. w.if-kind-number.false (e ∙ sym c.number.ensures)))
    ] in
    record {
      c_bound = rw to (place_fits _ _ _ _ _ _ (passed _ c.judge.ensures.asked c.in_ok-name.was) refl);
      waits = waiting _ _ _ _ _ _ (passed _ c.judge.ensures.asked c.in_ok-name.was) refl _ (finds c.in_ok-name.ensures.named _ c.find.ensures) c.in_ok-place.ensures.ok_part;
    }

pub returns : goal.returns
returns c =
    let to : c.if-kind-number.to ≡ cond (eqb c.args.kind 2) c.args.sender c.args.receiver =
    elim c.if-kind-number.branch [
      | then-kind-number w ↦ w.to-is ∙ rw (eq-eqb _ 2 (w.if-kind-number.true ∙ c.number.ensures))
      | else-kind-number w ↦ w.to-is ∙ rw (ne_eqb _ 2 (λ e. w.if-kind-number.false (e ∙ sym c.number.ensures)))
    ] in
    to_chare _ _ _ _ _ _ (passed _ c.judge.ensures.asked c.in_ok-name.was) refl _ (finds c.in_ok-name.ensures.named _ c.find.ensures) c.in_ok-place.ensures.ok_part _ _ c.in_default.not-Note _ to c.deliver_to.ensures
