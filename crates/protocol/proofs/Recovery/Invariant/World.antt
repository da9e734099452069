-- What the invariant speaks of: the state beside the run that is carried along, and the notions that its clauses share.
use Rattle.std.specs.Prelude.{◌≡◌, Bool, cond, ◌⊎◌, ◌≢◌, List, [], ◌∷◌, ◌++◌, ℕ, suc, ◌+◌, ◌≤◌, eqb, length}
use Rattle.lists.specs.Map.{upd}
use Rattle.lists.specs.Lists.{◌∈◌}
use Rattle.protocol.specs.declared.Message.{Message}
use Rattle.protocol.specs.declared.Logged.{Logged}
use Rattle.protocol.specs.declared.Entry.{Entry}
use Rattle.protocol.specs.declared.Note.{Note}
use Rattle.protocol.specs.declared.Packet.{Packet}
use Rattle.protocol.specs.declared.Status.{Status}
use Rattle.protocol.specs.Parts.{Job, Memory}
use Rattle.protocol.specs.CrashFree.{Run}
use Rattle.protocol.proofs.Recovery.Run.Facts.{Sent}

-- `run` is the crash-free run carried along. `stable c` is the height in the last copy fixed for chare c. `mem c` is the memory of c
-- on a machine that is up; on a machine that is down it is what its restart would put back now, without the fills. The rest is the
-- state's.
pub record World : Type 0 where
  pub job : Job
  pub run : Run
  pub stable : ℕ → ℕ
  pub status : ℕ → Status
  pub target : ℕ → ℕ
  pub mem : ℕ → Memory
  pub held : ℕ → Bool
  pub copy : ℕ → Memory
  pub notes : ℕ → List Note
  pub wire : List Packet

module _ (w : World) where
  abbrev pub put_run : Run → World
  put_run v = record { job = w.job; run = v; stable = w.stable; status = w.status; target = w.target; mem = w.mem; held = w.held; copy = w.copy; notes = w.notes; wire = w.wire }

  abbrev pub put_mem : (ℕ → Memory) → World
  put_mem v = record { job = w.job; run = w.run; stable = w.stable; status = w.status; target = w.target; mem = v; held = w.held; copy = w.copy; notes = w.notes; wire = w.wire }

  abbrev pub put_status : (ℕ → Status) → (ℕ → ℕ) → World
  put_status v t = record { job = w.job; run = w.run; stable = w.stable; status = v; target = t; mem = w.mem; held = w.held; copy = w.copy; notes = w.notes; wire = w.wire }

  abbrev pub put_copies : (ℕ → ℕ) → (ℕ → Bool) → (ℕ → Memory) → (ℕ → List Note) → World
  put_copies sh h c n = record { job = w.job; run = w.run; stable = sh; status = w.status; target = w.target; mem = w.mem; held = h; copy = c; notes = n; wire = w.wire }

  abbrev pub put_notes : (ℕ → List Note) → World
  put_notes v = record { job = w.job; run = w.run; stable = w.stable; status = w.status; target = w.target; mem = w.mem; held = w.held; copy = w.copy; notes = v; wire = w.wire }

  abbrev pub put_wire : List Packet → World
  put_wire v = record { job = w.job; run = w.run; stable = w.stable; status = w.status; target = w.target; mem = w.mem; held = w.held; copy = w.copy; notes = w.notes; wire = v }

-- What a chare or the desk has yet to send in the midst of a step: one message to each of the receivers.
pub record Pending : Type 0 where
  pub sender : ℕ
  pub receivers : List ℕ
  pub value : ℕ
  pub hops : ℕ

abbrev pub nothing_pending : Pending
nothing_pending = record { sender = 0; receivers = []; value = 0; hops = 0 }

-- SN counts once every pending message is sent
unfoldable pub count_all : List ℕ → (ℕ → ℕ) → ℕ → ℕ
count_all [] f = f
count_all (r ∷ l) f = count_all l (upd r (f r + 1) f)

unfoldable pub counted : Pending → ℕ → (ℕ → ℕ) → ℕ → ℕ
counted p a f = cond (eqb a p.sender) (count_all p.receivers f) f

-- the run has sent each of them
unfoldable pub Owed : Run → ℕ → List ℕ → ℕ → ℕ → (ℕ → ℕ) → Type 0
Owed x a [] value hops f = Unit {0}
Owed x a (r ∷ l) value hops f =
    Sent x (record { sender = a; receiver = r; sn = f r + 1; value = value; hops = hops }) × Owed x a l value hops (upd r (f r + 1) f)

-- ---- places and tickets
-- the t-th message of a list, counted from 1, is of sender s with SN n
pub record Place (l : List Message) (t s n : ℕ) : Type 0 where
  pub before : List Message
  pub message : Message
  pub after : List Message
  pub split : l ≡ before ++ (message ∷ after)
  pub place : t ≡ suc (length before)
  pub of_sender : message.sender ≡ s
  pub of_sn : message.sn ≡ n

-- the table has an entry for sender s and SN n with TN t
pub record HasEntry (l : List Entry) (s n t : ℕ) : Type 0 where
  pub entry : Entry
  pub member : entry ∈ l
  pub of_sender : entry.sender ≡ s
  pub of_sn : entry.sn ≡ n
  pub of_tn : entry.tn ≡ t

-- t is the ticket of message (s, n) at r: it was worked there in the run, or the table has it
abbrev pub Tick : Run → (ℕ → Memory) → ℕ → ℕ → ℕ → ℕ → Type 0
Tick x mem r s n t = Place (x.worked r) t s n ⊎ HasEntry (mem r).table s n t

-- message (s, n) was worked at r at or below the copied height
pub record Stable (x : Run) (stable : ℕ → ℕ) (r s n : ℕ) : Type 0 where
  pub tn : ℕ
  pub low : tn ≤ stable r
  pub worked : Place (x.worked r) tn s n

-- the run has sent a message of this name
pub record SentKey (x : Run) (s r n : ℕ) : Type 0 where
  pub message : Message
  pub sent : Sent x message
  pub of_sender : message.sender ≡ s
  pub of_receiver : message.receiver ≡ r
  pub of_sn : message.sn ≡ n

-- the log has a message to r with SN n, under any TN or none
pub record InLog (l : List Logged) (r n : ℕ) : Type 0 where
  pub logged : Logged
  pub member : logged ∈ l
  pub of_receiver : logged.message.receiver ≡ r
  pub of_sn : logged.message.sn ≡ n

-- the same, with TN t
pub record LoggedAs (l : List Logged) (r n t : ℕ) : Type 0 where
  pub logged : Logged
  pub member : logged ∈ l
  pub of_receiver : logged.message.receiver ≡ r
  pub of_sn : logged.message.sn ≡ n
  pub of_tn : logged.tn ≡ t

-- the same, with some TN
pub record HasTicket (l : List Logged) (r n : ℕ) : Type 0 where
  pub tn : ℕ
  pub some_tn : tn ≢ 0
  pub found : LoggedAs l r n tn

pub record NotedAs (l : List Note) (s r n t : ℕ) : Type 0 where
  pub note : Note
  pub member : note ∈ l
  pub of_sender : note.sender ≡ s
  pub of_receiver : note.receiver ≡ r
  pub of_sn : note.sn ≡ n
  pub of_tn : note.tn ≡ t

-- ticket t of (s, n) at r is safe with r's buddy: among the notes for r's machine, or in the copied table
abbrev pub Kept : Job → (ℕ → Memory) → (ℕ → List Note) → ℕ → ℕ → ℕ → ℕ → Type 0
Kept j copy notes r s n t = NotedAs (notes (j.home r)) s r n t ⊎ HasEntry (copy r).table s n t
