-- The proved cases hold: each computes.
use Rattle.std.specs.Prelude.{refl}
use Rattle.protocol.specs.Cases.Computing.{opened}
use Rattle.crashsets.specs.CrashSets.{sets, has_size, stands, survives, total, survived, decimals, decimal, field, count_line, counts, report, reported, of_first, survivors}
use Rattle.crashsets.specs.Cases.{Cases}

pub cases : Cases
unfolding opened survivors of_first reported report counts count_line field decimal decimals survived total survives stands has_size sets
cases = record {
  two_machines = refl;
  previous_machine = refl;
  in_pairs = refl;
  on_a_ring = refl;
  one_line = refl;
  no_newline = refl;
  nothing = refl;
  garbled = refl;
  empty_line = refl;
  no_job = refl;
  bad_job = refl;
}
