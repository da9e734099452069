-- The two links are found, and the place is written to the slot of the record's name.
use Rattle.std.proofs.Common.{ap, arith, set, add-one, ◌∙◌}
use Rattle.precedes.specs.{Precedes.{name, origin}, Links.{in_slots}}
use Rattle.precedes.proofs.links.put.Goals as goal

pub overflow_sub-p : goal.overflow_sub-p
overflow_sub-p c = (in_slots c.args.p c.requires.p_value).2

pub slot-requires : goal.slot-requires
slot-requires c = let h = in_slots c.args.p c.requires.p_value in (h.0, h.2)

pub bounds-at-slot : goal.bounds-at-slot
bounds-at-slot c =
    let h = in_slots c.args.p c.requires.p_value in omega (arith, c.slot.ensures, h.0, h.1, h.2, h.3, c.told-at)

pub returns : goal.returns
unfolding name origin
returns c =
    let x = c.args in record {
      at = rw (c.slot.ensures, add-one x.i);
      before = ap (set x.before.now x.i) (c.unwrap_or.ensures ∙ c.find.ensures.is);
      sent = ap (set x.sent.now x.i) (c.unwrap_or-2.ensures ∙ c.find-2.ensures.is);
    }
