-- The proved cases hold: each computes.
use Rattle.std.specs.Prelude.{refl}
use Rattle.protocol.specs.Cases.{Cases, after, two, three, ask_of, table_of, desk_log, through, five, holed, sixteen, sixteen_lines, sixteen_lines_01}
use Rattle.protocol.specs.Cases.Computing.{opened, opened_history}

pub cases : Cases
unfolding opened opened_history after two three ask_of table_of desk_log through five holed sixteen sixteen_lines sixteen_lines_01
cases = record {
  sitting = (refl, refl);
  works = (refl, refl);
  high_bit = refl;
  all_ones = refl;
  admits_128 = refl;
  refuses_129 = refl;
  replies = refl;
  mark_128 = refl;
  mark_3 = refl;
  hole_3 = refl;
  drops_4 = refl;
  log_full = (refl, refl);
  too_short = (refl, refl);
  no_chare = (refl, refl);
  letters = (refl, refl);
  withdraws = (refl, refl);
  not_in_log = (refl, refl);
  no_ask = (refl, refl);
  has_ticket = (refl, refl);
  its_machine = (refl, refl);
  not_withdrawn = refl;
  zero_buddies = refl;
}
