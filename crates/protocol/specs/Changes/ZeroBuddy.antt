-- Document 02, Point 7: "Buddy 00 now means the previous machine, M before 1. The stored exam jobs that relied on the next one are
-- rewritten with that number spelt out, and must give the same lines. With two machines nothing differs."
use Rattle.std.specs.Prelude.{◌≡◌, true, cond, ◌&&◌, List, [], ◌∷◌, ℕ, suc, ◌+◌, ◌-◌, eqb, get_or}
use Rattle.std.proofs.Math.Option.{Option, some, none}
use Rattle.lists.specs.Questions.{put_all}
use Rattle.protocol.specs.declared.Answer.{Answer}
use Rattle.protocol.specs.declared.Answer.TheVariants.{Refused}
use Rattle.protocol.specs.Parts.{Job, State, start}
use Rattle.protocol.specs.Frames.{Line, Frame, job, inject, deliver, work, checkpoint, crash, restart, show, withdraw, frame, between, is_whole}
use Rattle.protocol.specs.Job.{machines_of, buddy_byte, job_in_range, has_machine, job_of, begin}
use Rattle.protocol.specs.Questions.{questions}
use Rattle.protocol.specs.Step.{Outcome, accept, judged, play, answers_from}
use Rattle.protocol.specs.Cases.Computing.{text}

-- ---- the former reading, document 01's: "buddy 00 is the next machine, 1 after M"
unfoldable pub next_machine : ℕ → ℕ → ℕ
next_machine m p = cond (eqb p m) 1 (p + 1)

-- the buddy of machine p by that reading
unfoldable pub buddy_before : List ℕ → ℕ → ℕ
buddy_before b p = cond (has_machine b p) (cond (eqb (buddy_byte b p) 0) (next_machine (machines_of b) p) (buddy_byte b p)) 0

-- the job of a line by that reading: only the buddies differ
unfoldable pub job_before : List ℕ → Job
job_before b = let j = job_of b in record {
  set = j.set;
  machines = j.machines;
  chares = j.chares;
  buddy = buddy_before b;
  home = j.home;
  first = j.first;
  second = j.second;
}

-- the state that it begins: only the job differs
unfoldable pub begin_before : List ℕ → State
begin_before b = let s = begin b in record {
  job = job_before b;
  lost = s.lost;
  status = s.status;
  target = s.target;
  live = s.live;
  held = s.held;
  copy = s.copy;
  notes = s.notes;
  wire = s.wire;
}

-- a frame, a line and a list by that reading: only what an accepted job begins differs
unfoldable pub play_before : State → Frame → Outcome
play_before s (job b) = judged s (put_all (questions s (job b)) (accept (begin_before b)))
play_before s (inject c value hops) = play s (inject c value hops)
play_before s (deliver k a r n) = play s (deliver k a r n)
play_before s (work c) = play s (work c)
play_before s (checkpoint p) = play s (checkpoint p)
play_before s (crash p) = play s (crash p)
play_before s (restart p) = play s (restart p)
play_before s (show c) = play s (show c)
play_before s (withdraw c) = play s (withdraw c)

unfoldable pub step_before : State → Option Frame → Outcome
step_before s none = record { state = s; answer = Refused 1 }
step_before s (some f) = play_before s f

unfoldable pub answers_before : State → List Line → List Answer
answers_before s [] = []
answers_before s (l ∷ ls) = let o = step_before s (frame l) in o.answer ∷ answers_before o.state ls

-- ---- "rewritten with that number spelt out"
-- the byte x at place i of a job's line b, from 0; the buddies of machines 1 to M have places 3 to M + 2
unfoldable pub spelt_byte : List ℕ → ℕ → ℕ → ℕ
spelt_byte b i x = cond (between 3 (machines_of b + 2) i && eqb x 0) (next_machine (machines_of b) (i - 2)) x

-- each byte by its place, the first one's being i
unfoldable pub by_place : (ℕ → ℕ → ℕ) → ℕ → List ℕ → List ℕ
by_place f i [] = []
by_place f i (x ∷ l) = f i x ∷ by_place f (suc i) l

unfoldable pub spelt_out : List ℕ → List ℕ
spelt_out b = by_place (spelt_byte b) 0 b

unfoldable pub spelt : Frame → Frame
spelt (job b) = job (spelt_out b)
spelt (inject c value hops) = inject c value hops
spelt (deliver k a r n) = deliver k a r n
spelt (work c) = work c
spelt (checkpoint p) = checkpoint p
spelt (crash p) = crash p
spelt (restart p) = restart p
spelt (show c) = show c
spelt (withdraw c) = withdraw c

unfoldable pub spelt_frame : Option Frame → Option Frame
spelt_frame none = none
spelt_frame (some f) = some (spelt f)

-- a job that relied on nothing: it was refused, or it has two machines
pub data MayStay (s : State) : Option Frame → Type 0 where
  refused : {b : List ℕ} {n : ℕ} → (play_before s (job b)).answer ≡ Refused n → MayStay s (some (job b))
  of_two : {b : List ℕ} → machines_of b ≡ 2 → MayStay s (some (job b))

-- from the state s on, the second list is the first with every 00 of a job spelt out, but for jobs that may stay; how a line writes its
-- digits is free
pub data Rewritten : State → List Line → List Line → Type 0 where
  nothing : {s : State} → Rewritten s [] []
  line : {s : State} {l k : Line} {ls ks : List Line} → frame k ≡ spelt_frame (frame l) → Rewritten (step_before s (frame l)).state ls ks → Rewritten s (l ∷ ls) (k ∷ ks)
  stays : {s : State} {l k : Line} {ls ks : List Line} → frame k ≡ frame l → MayStay s (frame l) → Rewritten (step_before s (frame l)).state ls ks → Rewritten s (l ∷ ls) (k ∷ ks)

-- ---- what is claimed
-- the bytes of a job that questions 1 and 3 let pass
pub record Acceptable (b : List ℕ) : Type 0 where
  pub kind : get_or b 0 0 ≡ 1
  pub whole : is_whole b ≡ true
  pub in_range : job_in_range b ≡ true

pub record ZeroBuddy : Type 0 where
  -- a job with every 00 spelt out is an acceptable job, and the one that 00 gave before
  pub acceptable : (b : List ℕ) → Acceptable b → Acceptable (spelt_out b)
  pub same_job : (b : List ℕ) → Acceptable b → job_of (spelt_out b) ≡ job_before b
  -- a rewritten list gets the same answers, from any state on, and so the same lines; for instance this one
  pub same_answers : (s : State) (ls ks : List Line) → Rewritten s ls ks → answers_from s ks ≡ answers_before s ls
  pub instance : (ls : List Line) → Rewritten start (text "1601" ∷ text "010301000000010000" ∷ ls) (text "1601" ∷ text "010301020301010000" ∷ ls)
  pub instance_two : (ls : List Line) → Rewritten start (text "0102010000010000" ∷ ls) (text "0102010000010000" ∷ ls)
  -- "The stored exam jobs": once a job is accepted every other is refused, so that only the accepted one is spelt out
  pub stored : (s : State) (l k : Line) (ls : List Line) → frame k ≡ spelt_frame (frame l) → (step_before s (frame l)).state.job.set ≡ true → Rewritten s (l ∷ ls) (k ∷ ls)
  -- with two machines nothing differs
  pub two_machines : (b : List ℕ) → machines_of b ≡ 2 → job_of b ≡ job_before b
