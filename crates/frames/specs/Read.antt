-- A frame as the code has it.
use Rattle.std.specs.Prelude.{Option as Found, None, Some, cond, ◌&&◌, ◌≡◌, ℕ, ◌+◌, ◌*◌, ◌≤◌, ◌/◌, eqb, length, get_or, drop}
use Rattle.std.proofs.Math.Option.{Option, some, none}
use Rattle.protocol.specs.Frames.{Line, least_length, parts, job, inject, deliver, work, checkpoint, crash, restart, show, withdraw}
use Rattle.frames.specs.{Decode.{decoded, is_hexadecimal}, declared.Frame.TheVariants.{Job, Inject, Deliver, Work, Checkpoint, Crash, Restart, Show, Withdraw}}
use Rattle.frames.specs.declared.Frame.{Frame}
use Rattle.protocol.specs.Frames

-- A job's bytes stay in the line.
unfoldable pub read_as : Option Frames.Frame → Found Frame
read_as none = None
read_as (some (job b)) = Some Job
read_as (some (inject c v h)) = Some (Inject c v h)
read_as (some (deliver k s r n)) = Some (Deliver k s r n)
read_as (some (work c)) = Some (Work c)
read_as (some (checkpoint p)) = Some (Checkpoint p)
read_as (some (crash p)) = Some (Crash p)
read_as (some (restart p)) = Some (Restart p)
read_as (some (show c)) = Some (Show c)
read_as (some (withdraw c)) = Some (Withdraw c)

-- The other way: what a frame as the code has it says of its line.
unfoldable pub meaning : Line → Found Frame → Option Frames.Frame
meaning l None = none
meaning l (Some Job) = some (job (decoded l))
meaning l (Some (Inject c v h)) = some (inject c v h)
meaning l (Some (Deliver k s r n)) = some (deliver k s r n)
meaning l (Some (Work c)) = some (work c)
meaning l (Some (Checkpoint p)) = some (checkpoint p)
meaning l (Some (Crash p)) = some (crash p)
meaning l (Some (Restart p)) = some (restart p)
meaning l (Some (Show c)) = some (show c)
meaning l (Some (Withdraw c)) = some (withdraw c)

-- A line of kind 01, m its least length.
unfoldable pub job_as : Line → ℕ → Found Frame
job_as l m = cond (is_hexadecimal l && eqb (length l / 2) (m + get_or (decoded l) 1 0 + 3 * get_or (decoded l) 2 0)) (Some Job) None

-- n characters are the length of kind k, which is not the job.
pub record Sized (n k : ℕ) : Type 0 where
  pub some_pair : 2 ≤ n
  pub known : k ≤ 23
  pub other : k ≡ 1 → ⊥
  pub exact : n ≡ 2 * least_length k

-- The frame of a kind whose two digits are judged, and whose length is right.
unfoldable pub behind_kind : Line → ℕ → Option Frames.Frame
behind_kind l k = cond (is_hexadecimal (drop 2 l)) (parts (decoded l) k) none
