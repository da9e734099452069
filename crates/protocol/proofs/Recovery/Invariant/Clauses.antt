-- The invariant of demand 3, clause by clause. Each record reads only the parts that it names.
use Rattle.std.specs.Prelude.{◌≡◌, Bool, true, false, ◌⊎◌, ◌≢◌, List, ℕ, ◌-◌, ◌≤◌, ◌<◌, max, length, take}
use Rattle.lists.specs.Lists.{◌∈◌, All}
use Rattle.lists.specs.Keys.{NoDup}
use Rattle.protocol.specs.declared.Message.{Message}
use Rattle.protocol.specs.declared.Logged.{Logged}
use Rattle.protocol.specs.declared.Entry.{Entry}
use Rattle.protocol.specs.declared.Note.{Note}
use Rattle.protocol.specs.declared.Packet.{Packet}
use Rattle.protocol.specs.declared.Content.{Content}
use Rattle.protocol.specs.declared.Content.TheVariants.{Ask as ASK, GrantOld as GRANT-old, GrantReceived as GRANT-received, GrantNew as GRANT-new, Data as DATA, Note as NOTE, Ack as ACK}
use Rattle.protocol.specs.declared.Status.{Status}
use Rattle.protocol.specs.declared.Status.TheVariants.{Up, Down, CatchingUp}
use Rattle.protocol.specs.Parts.{Job, Memory, every_chare, every_machine}
use Rattle.protocol.specs.Work.{receivers, ports}
use Rattle.protocol.specs.Sending.{is_local}
use Rattle.protocol.specs.CrashFree.{Run}
use Rattle.protocol.specs.History.{message_of}
use Rattle.protocol.proofs.Recovery.Run.Fold.{folded}
use Rattle.protocol.proofs.Recovery.Run.Facts.{Sent}
use Rattle.protocol.proofs.Recovery.Laws.Marks.{In, Reach, Marked}
use Rattle.protocol.proofs.Recovery.Invariant.World.{World, Pending, counted, Owed, Place, HasEntry, Tick, Stable, SentKey, InLog, LoggedAs, HasTicket, Kept}
use Rattle.protocol.proofs.Recovery.Laws.Lookups.{entry_key, logged_key}

-- c is a chare of the job: it has a machine
abbrev pub Chare : Job → ℕ → Type 0
Chare j c = j.home c ≢ 0

-- who has a log: the desk and the chares
abbrev pub Sender : Job → ℕ → Type 0
Sender j a = (a ≡ 0) ⊎ Chare j a

-- ---- the job
pub record JobOk (j : Job) : Type 0 where
  pub desk : j.home 0 ≡ 0
  pub chare : (c : ℕ) → Chare j c → c ∈ every_chare
  pub machine : (c : ℕ) → Chare j c → j.home c ∈ every_machine
  pub ports : (c hops : ℕ) → All (Chare j) (receivers (ports j) c hops)
  pub buddies : (p : ℕ) → p ∈ every_machine → j.buddy p ≢ p
  pub unset : j.set ≡ false → (c : ℕ) → j.home c ≡ 0
  pub range : (c : ℕ) → 1 ≤ c → c ≤ j.chares → Chare j c

-- ---- the run: whatever it has sent is from a sender to a chare
pub record Domain (j : Job) (x : Run) : Type 0 where
  pub receiver : (m : Message) → Sent x m → Chare j m.receiver
  pub sender : (m : Message) → Sent x m → Sender j m.sender

-- ---- machines: at most one is not normal, and a down one has its copy
pub record Machines (status : ℕ → Status) (held : ℕ → Bool) : Type 0 where
  pub desk : status 0 ≡ Up
  pub one : (p q : ℕ) → status p ≢ Up → status q ≢ Up → p ≡ q
  pub covered : (p : ℕ) → status p ≡ Down → held p ≡ true

-- ---- images: what chare c holds, with the SN counts f, is what its first `height` messages make of it
pub record Image (j : Job) (x : Run) (c : ℕ) (m : Memory) (f : ℕ → ℕ) : Type 0 where
  pub reached : m.height ≤ length (x.worked c)
  pub state : m.state ≡ (folded j c (take m.height (x.worked c))).state
  pub counts : f ≡ (folded j c (take m.height (x.worked c))).sn
  pub marks : Marked m (take m.height (x.worked c))

pub record Images (j : Job) (x : Run) (p : Pending) (mem : ℕ → Memory) : Type 0 where
  pub image : (c : ℕ) → Chare j c → Image j x c (mem c) (counted p c (mem c).sn)
  pub desk : counted p 0 (mem 0).sn ≡ x.sn 0
  pub owed : Owed x p.sender p.receivers p.value p.hops (mem p.sender).sn
  pub owing : Sender j p.sender
  pub owed_to : All (Chare j) p.receivers

-- ---- heights
pub record Heights (j : Job) (x : Run) (stable : ℕ → ℕ) (status : ℕ → Status) (target : ℕ → ℕ) (mem : ℕ → Memory) (held : ℕ → Bool) (copy : ℕ → Memory) : Type 0 where
  pub normal : (c : ℕ) → Chare j c → status (j.home c) ≡ Up → (mem c).height ≡ length (x.worked c)
  pub catching_up : (c : ℕ) → Chare j c → status (j.home c) ≡ CatchingUp → length (x.worked c) ≤ max (target c) (mem c).height
  pub down : (c : ℕ) → Chare j c → status (j.home c) ≡ Down → (mem c).height ≡ stable c
  pub above_stable : (c : ℕ) → Chare j c → stable c ≤ (mem c).height
  pub copied : (c : ℕ) → Chare j c → held (j.home c) ≡ true → (copy c).height ≡ stable c

-- ---- tables: the table l of chare c, whose stable height is h
pub record Table (x : Run) (c h : ℕ) (l : List Entry) : Type 0 where
  pub complete : (t : ℕ) → h < t → t ≤ length (x.worked c) → (e : Entry) × (e ∈ l) × (e.tn ≡ t)
  pub positive : All (λ e. 1 ≤ e.tn) l
  pub tns : NoDup (λ (e : Entry). e.tn) l
  pub keys : NoDup entry_key l
  pub sent : All (λ e. SentKey x e.sender c e.sn) l
  pub past : All (λ e. e.tn ≤ length (x.worked c) → Place (x.worked c) e.tn e.sender e.sn) l
  pub fresh : All (λ e. length (x.worked c) < e.tn → In (x.worked c) e.sender e.sn → ⊥) l
  pub reach : All (λ e. Reach (take (e.tn - 1) (x.worked c)) e.sender e.sn) l
  pub body : All (λ e. e.received ≡ true → Sent x (message_of c e)) l

abbrev pub Tables : Job → Run → (ℕ → ℕ) → (ℕ → Memory) → Type 0
Tables j x stable mem = (c : ℕ) → Chare j c → Table x c (stable c) (mem c).table

-- ---- a local message is received or worked only after it was sent
pub record Ordered (j : Job) (x : Run) (mem : ℕ → Memory) : Type 0 where
  pub received : (c : ℕ) → Chare j c → All (λ e. is_local j e.sender c ≡ true → e.received ≡ true → e.sn ≤ (mem e.sender).sn c) (mem c).table
  pub worked : (c s n : ℕ) → Chare j c → is_local j s c ≡ true → In (take (mem c).height (x.worked c)) s n → n ≤ (mem s).sn c

-- ---- a remote entry above the stable height that is received or worked in the run has its ticket in the sender's log, if the sender's
-- machine is normal; of the table l of chare c
abbrev pub Remembers : Job → Run → (ℕ → ℕ) → (ℕ → Status) → (ℕ → Memory) → ℕ → List Entry → Type 0
Remembers j x stable status mem c l =
    All (λ e. stable c < e.tn → is_local j e.sender c ≡ false → status (j.home e.sender) ≡ Up
    → (e.received ≡ true) ⊎ (e.tn ≤ length (x.worked c)) → LoggedAs (mem e.sender).log c e.sn e.tn) l

abbrev pub Remembered : Job → Run → (ℕ → ℕ) → (ℕ → Status) → (ℕ → Memory) → Type 0
Remembered j x stable status mem = (c : ℕ) → Chare j c → Remembers j x stable status mem c (mem c).table

-- ---- notes of local entries; those above the stable height that are noted are safe with the buddy, in the table l of chare c
abbrev pub Keeps : Job → (ℕ → ℕ) → (ℕ → Memory) → (ℕ → List Note) → ℕ → List Entry → Type 0
Keeps j stable copy notes c l =
    All (λ e. stable c < e.tn → is_local j e.sender c ≡ true → e.noted ≡ true → Kept j copy notes c e.sender e.sn e.tn) l

pub record Noted (j : Job) (x : Run) (stable : ℕ → ℕ) (mem : ℕ → Memory) (held : ℕ → Bool) (copy : ℕ → Memory) (notes : ℕ → List Note) : Type 0 where
  pub unnoted : (c : ℕ) → Chare j c → All (λ e. e.noted ≡ false → (is_local j e.sender c ≡ true) × (length (x.worked c) < e.tn)) (mem c).table
  pub noted : (c : ℕ) → Chare j c → held (j.home c) ≡ true → Keeps j stable copy notes c (mem c).table

-- ---- logs: the log l of a, whose SN counts are f
pub record Log (j : Job) (x : Run) (stable : ℕ → ℕ) (mem : ℕ → Memory) (a : ℕ) (l : List Logged) (f : ℕ → ℕ) : Type 0 where
  pub sent : All (λ y. Sent x y.message) l
  pub owner : All (λ y. y.message.sender ≡ a) l
  pub counted : All (λ y. y.message.sn ≤ f y.message.receiver) l
  pub keys : NoDup logged_key l
  pub tick : All (λ y. y.tn ≢ 0 → Tick x mem y.message.receiver a y.message.sn y.tn) l
  pub local : All (λ y. is_local j a y.message.receiver ≡ true → y.tn ≢ 0) l
  pub whole : (r n : ℕ) → 1 ≤ n → n ≤ f r → InLog l r n ⊎ Stable x stable r a n

abbrev pub Logs : Job → Run → (ℕ → ℕ) → (ℕ → Memory) → Type 0
Logs j x stable mem = (a : ℕ) → Sender j a → Log j x stable mem a (mem a).log (mem a).sn

-- ---- held copies
pub record Copy (j : Job) (x : Run) (stable : ℕ → ℕ) (mem copy : ℕ → Memory) (c : ℕ) : Type 0 where
  pub image : Image j x c (copy c) (copy c).sn
  pub log : Log j x stable mem c (copy c).log (copy c).sn
  pub ordered : (s n : ℕ) → is_local j s c ≡ true → In (take (copy c).height (x.worked c)) s n → n ≤ (copy s).sn c
  pub kept : All (λ y. y.tn ≢ 0 → LoggedAs (mem c).log y.message.receiver y.message.sn y.tn
      ⊎ ((y.tn ≤ stable y.message.receiver) × Place (x.worked y.message.receiver) y.tn c y.message.sn)) (copy c).log
  pub local : All (λ y. is_local j c y.message.receiver ≡ true → (copy y.message.receiver).height < y.tn
      → HasEntry (copy y.message.receiver).table c y.message.sn y.tn) (copy c).log
  pub table : All (λ e. ((copy c).height < e.tn) × Tick x mem c e.sender e.sn e.tn) (copy c).table

abbrev pub Copies : Job → Run → (ℕ → ℕ) → (ℕ → Memory) → (ℕ → Bool) → (ℕ → Memory) → Type 0
Copies j x stable mem held copy = (c : ℕ) → Chare j c → held (j.home c) ≡ true → Copy j x stable mem copy c

-- ---- note lists
abbrev pub Notes : Job → Run → (ℕ → Memory) → (ℕ → List Note) → Type 0
Notes j x mem notes =
    (p : ℕ) → All (λ n. (is_local j n.sender n.receiver ≡ true) × Chare j n.receiver × (j.home n.receiver ≡ p)
    × Tick x mem n.receiver n.sender n.sn n.tn) (notes p)

-- ---- entries of message (s, n) above the stable height are safe with the buddy, in the table l of chare r
abbrev pub Acks : World → ℕ → ℕ → ℕ → List Entry → Type 0
Acks w s r n l = All (λ e. w.stable r < e.tn → e.sender ≡ s → e.sn ≡ n → Kept w.job w.copy w.notes r s n e.tn) l

-- ---- the wire: what holds of a packet from s to r with SN n, by its content
abbrev pub Fits : World → ℕ → ℕ → ℕ → Content → Type 0
Fits w s r n ASK = is_local w.job s r ≡ false
Fits w s r n GRANT-old = (is_local w.job s r ≡ false) × Stable w.run w.stable r s n × (w.status (w.job.home r) ≢ Down)
Fits w s r n (GRANT-received t) = (is_local w.job s r ≡ false) × Tick w.run w.mem r s n t × (w.status (w.job.home r) ≢ Down)
Fits w s r n (GRANT-new t) = (is_local w.job s r ≡ false) × Tick w.run w.mem r s n t × (w.status (w.job.home r) ≢ Down)
Fits w s r n (DATA v h) =
    (is_local w.job s r ≡ false)
    × Sent w.run (record { sender = s; receiver = r; sn = n; value = v; hops = h })
    × (w.status (w.job.home s) ≡ Up → HasTicket (w.mem s).log r n ⊎ Stable w.run w.stable r s n)
Fits w s r n (NOTE t) =
    (is_local w.job s r ≡ true) × Tick w.run w.mem r s n t × (n ≤ (w.mem s).sn r) × (w.status (w.job.home r) ≢ Down)
Fits w s r n ACK =
    (is_local w.job s r ≡ true) × (n ≤ (w.mem s).sn r)
    × (w.held (w.job.home r) ≡ true → Acks w s r n (w.mem r).table)

pub record PacketOk (w : World) (p : Packet) : Type 0 where
  pub key : SentKey w.run p.sender p.receiver p.sn
  pub fits : Fits w p.sender p.receiver p.sn p.content

-- ---- the desk's log l: a message without a TN is not worked
pub record Waiting (x : Run) (l : List Logged) : Type 0 where
  pub unworked : All (λ y. y.tn ≡ 0 → In (x.worked y.message.receiver) 0 y.message.sn → ⊥) l

-- ---- the whole, with what is still to be sent in the midst of a step
pub record InvP (p : Pending) (w : World) : Type 0 where
  pub job : JobOk w.job
  pub domain : Domain w.job w.run
  pub machines : Machines w.status w.held
  pub images : Images w.job w.run p w.mem
  pub heights : Heights w.job w.run w.stable w.status w.target w.mem w.held w.copy
  pub tables : Tables w.job w.run w.stable w.mem
  pub ordered : Ordered w.job w.run w.mem
  pub remembered : Remembered w.job w.run w.stable w.status w.mem
  pub noted : Noted w.job w.run w.stable w.mem w.held w.copy w.notes
  pub logs : Logs w.job w.run w.stable w.mem
  pub copies : Copies w.job w.run w.stable w.mem w.held w.copy
  pub notes : Notes w.job w.run w.mem w.notes
  pub wire : All (PacketOk w) w.wire
