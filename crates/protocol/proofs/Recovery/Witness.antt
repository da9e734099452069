-- The theorem is about something: a list with an accepted withdrawal, an accepted crash and an accepted restart, and a quiet moment
-- after them.
use Rattle.std.specs.Prelude.{◌≡◌, refl, true, false, List}
use Prim.Native.String.{String, ◌++◌}
use Rattle.std.proofs.Common.{arith}
use Rattle.lists.specs.Tests.{true_not_false}
use Rattle.lists.specs.Lists.{allb, allb_true}
use Rattle.lists.specs.Counting.{counting, mem_counting}
use Rattle.protocol.specs.Crash.{is_normal}
use Rattle.protocol.specs.Frames.{Line}
use Rattle.protocol.specs.Lines.{lines}
use Rattle.protocol.specs.Step.{answers}
use Rattle.protocol.specs.History.{is_accepted, state_after}
use Rattle.protocol.specs.Demand3.{Quiet, Holds}
use Rattle.protocol.specs.Cases.Computing.{text, opened}
use Rattle.protocol.specs.Cases.{two, through, holed}
use Rattle.protocol.proofs.Recovery.LostFlag.{lost_flag}
use Rattle.protocol.proofs.Recovery.Along.{after_frame, along}
use Rattle.protocol.proofs.Recovery.Holes.{no_holes, is_hole, restart_holes, give, give_asked, change_holes, holes_after}
use Rattle.protocol.proofs.Recovery.Theorem.{demand3}

-- the desk takes a message back and sends another; chare 1 works it, its machine crashes and restarts, the message comes again and is
-- worked again
unfoldable pub recovering : String
recovering = two ++ "1001000900\n1701\n1001000300\n" ++ through "0001" ++ "1201\n1401\n1501\n110300010001\n1201\n"

unfoldable pub moment : List Line
moment = lines (text recovering)

-- every frame is accepted
pub accepted : answers (text (recovering ++ "1601\n")) ≡ text "00J\n00J\n00J\n00J\n00C\n00G\n00H\n00J\n00J\n00J\n00H\n00J\n00000100000023J\n"
unfolding opened recovering two through
accepted = refl

two_machines : (state_after moment).job.machines ≡ 2
unfolding opened moment recovering two through state_after
two_machines = refl

all_normal : allb (is_normal (state_after moment)) (counting 2 1) ≡ true
unfolding opened moment recovering two through state_after
all_normal = refl

not_lost : (state_after moment).lost ≡ false
unfolding opened moment recovering two through state_after
not_lost = refl

pub quiet : Quiet moment
quiet = record {
  no_ff = λ i. true_not_false ((lost_flag moment).set i) not_lost;
  normal = λ p a b. allb_true (is_normal (state_after moment)) (counting 2 1) all_normal p (mem_counting 2 1 p a (omega (arith, two_machines)));
}

-- so demand 3 speaks of it
pub holds : Holds moment
holds = demand3 moment quiet

-- ---- and holes: those of a list that is a proved case
opened_holes : Unit {0}
unfolding is_accepted after_frame along no_holes is_hole restart_holes give give_asked change_holes holes_after
opened_holes = tt

-- the restart leaves hole 3, and the next new ticket takes it
pub hole_left : holes_after (lines (text holed)) 1 3 ≡ true
unfolding opened opened_holes holed two through
hole_left = refl

pub hole_given : holes_after (lines (text (holed ++ "110100010003\n"))) 1 3 ≡ false
unfolding opened opened_holes holed two through
hole_given = refl
