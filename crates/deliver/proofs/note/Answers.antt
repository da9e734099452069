-- `note`: present, no room, or stored.
use Rattle.std.specs.Prelude.{◌≡◌, refl, List, ℕ, ◌-◌, ◌<◌, length}
use Rattle.std.proofs.Common.{sym, ◌∙◌, arith, lt-ltb, le-ltb}
use Rattle.lists.specs.Questions.{put_all}
use Rattle.arrays.specs.Front.{push_fits, push_full}
use Rattle.protocol.specs.{declared.Refusal.TheVariants.TableFull, Parts.note_room, Packets.note_of}
use Rattle.item.specs.{Item.items, Both.as_many}
use Rattle.notelist.specs.{Notes.{note_of as word-note, notes}, Fits.fitted_same}
use Rattle.deliver.specs.{NoteEffect.{note_questions, note_effect}, View.{passes, stops}}
use Rattle.deliver.proofs.note.Goals as goal

many : (ws : List ℕ) → length (items ws) ≡ length (notes ws)
unfolding notes
many ws = as_many word-note ws

pub returns-then-has : goal.returns-then-has
unfolding note_of note_questions note_effect put_all
returns-then-has c = let e = sym c.has.ensures ∙ c.if-has.true in record { row = passes _ (rw e); words = rw e }

pub returns-then-count-ge64 : goal.returns-then-count-ge64
unfolding note_of note_questions note_effect put_all
returns-then-count-ge64 c =
    let ws = c.args.ws.now in
    let e = sym c.has.ensures ∙ c.if-has.false in record {
      row = stops TableFull (rw (e, ← c.count.ensures, le-ltb c.count.result note_room (omega arith))) refl;
      words = rw e (sym (push_full note_room (items ws) _ (omega (arith, many ws, c.count.ensures))));
    }

pub returns : goal.returns
unfolding note_of note_questions note_effect put_all
returns c =
    let z : length c.args.ws.now - 1 ≡ note_room = omega (arith, c.requires.ws_len) in
    let room : length (notes c.args.ws.now) < note_room = omega (arith, c.count.ensures) in
    let same = fitted_same (note_of c.args.p c.args.tn) c.requires.fits.sender c.requires.fits.receiver in
    let e = sym c.has.ensures ∙ c.if-has.false in
    record {
      row = passes _ (rw (e, lt-ltb, c.push.ensures.row.items, z, same, push_fits));
      words = rw e (c.push.ensures.words ∙ rw z);
    }
