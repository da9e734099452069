-- The proved cases hold.
use Rattle.std.specs.Prelude.{refl}
use Rattle.std.proofs.Common.{arith}
use mathlib.Core.List.Memᴰ.{head as here, tail as there}
use Rattle.precedes.specs.Precedes.{name, origin, named, stands, count, in_range, sender_known, tn_next, has_room, good, first_bad, bad_place, on_chare, through_sender, through, Right}
use Rattle.lists.specs.Lists.{anyb, keep}
use Rattle.precedes.specs.Cases.{p, row, Cases}
use Rattle.precedes.proofs.Facts.{none_bad, not_itself, not_back, first_from_desk}

pub cases : Cases
unfolding Right bad_place first_bad good has_room tn_next sender_known in_range count stands named origin name anyb keep
cases = record {
  no_record = refl;
  good_row = refl;
  chare_0 = refl;
  chare_12 = refl;
  chare_13 = refl;
  sender_13 = refl;
  not_there = refl;
  sent_by_itself = refl;
  sent_later = refl;
  chare_at_0 = refl;
  desk_at_1 = refl;
  from_0 = refl;
  from_2 = refl;
  left_out = refl;
  twice = refl;
  first_of_two = refl;
  bad_first = (omega arith, refl);
  one_unknown = (refl, refl);
  other_unknown = (refl, refl);
  same_chare = (refl, refl, on_chare {a = (1, 1)} {b = (1, 2)} refl refl refl (omega arith));
  sender = (refl, refl, through_sender (p 2 1 1 1) (there (here refl)) refl);
  two_steps = (refl, refl, through (through_sender (p 2 1 1 1) (there (here refl)) refl) (through_sender (p 4 1 2 1) (there (there (there (there (here refl))))) refl));
  itself = (refl, refl, not_itself row (none_bad row refl) (1, 1));
  backward = (refl, refl, not_back row (none_bad row refl) (1, 2) (1, 1) 3 0 (omega arith) (omega arith) (refl, refl) (refl, refl));
  beside = (refl, refl, first_from_desk row (none_bad row refl) 2 (omega arith) (refl, refl) refl refl);
}
