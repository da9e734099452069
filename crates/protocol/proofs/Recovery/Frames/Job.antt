-- Where the invariant begins: before any job, and at a job.
use Rattle.std.specs.Prelude.{◌≡◌, Bool, true, false, cond, ◌&&◌, ◌≢◌, List, [], ℕ, zero, suc, ◌≤◌, eqb, leb}
use Rattle.std.proofs.Math.Path.{refl, sym, ap, subst}
use Rattle.std.proofs.Common.{◌∙◌, subst₂, inr, arith}
use Rattle.std.proofs.Math.Logic.{inl}
use mathlib.Core.List.Memᴰ
use Rattle.std.proofs.Math.ListN.{take}
use borrow.Author.Tests.{eqb-true, eqb-false, eq-eqb, leb-true, le-leb}
use Rattle.lists.specs.Tests.{either, true_not_false, and_l, and_r, and_i}
use Rattle.lists.specs.Lists.{◌∈◌, All, all_nil, all_cons, all_append, keep, mem_keep, allb, allb_true}
use Rattle.lists.specs.Keys.{nodup_nil}
use Rattle.lists.specs.Counting.{counting, mem_counting, counting_mem}
use Rattle.protocol.specs.declared.Message.{Message}
use Rattle.protocol.specs.declared.Status.TheVariants.{Up}
use Rattle.protocol.specs.Parts.{Job, Memory, State, blank, every_chare, every_machine, no_job, start}
use Rattle.protocol.specs.Frames.{between}
use Rattle.protocol.specs.Work.{port, ports, receivers}
use Rattle.protocol.specs.Job.{machines_of, chares_of, buddy_byte, chare_byte, buddy_in_range, chare_in_range, job_in_range, previous_machine, has_machine, has_chare, job_of, new_memory, first_memory, begin}
use Rattle.protocol.specs.CrashFree.{run_start}
use Rattle.protocol.specs.History.{no_history}
use Rattle.protocol.proofs.Recovery.Run.Fold.{Local, local_start, folded_nil}
use Rattle.protocol.proofs.Recovery.Run.Facts.{Sent, ok_start}
use Rattle.protocol.proofs.Recovery.Run.Laws.{started}
use Rattle.protocol.proofs.Recovery.Laws.Marks.{In, marked_blank}
use Rattle.protocol.proofs.Recovery.Invariant.World.{nothing_pending, Owed}
use Rattle.protocol.proofs.Recovery.Invariant.Clauses.{Chare, Sender, JobOk, Image, Images, Table, Tables, Log, Copies, InvP}
use Rattle.protocol.proofs.Recovery.Invariant.Linked.{world}
use Rattle.protocol.proofs.Recovery.Invariant.Good.{Carried}
use Rattle.protocol.proofs.Recovery.Invariant.Counts.{counted_nothing}
use Rattle.protocol.proofs.Recovery.Laws.Status.{down_not_up}
use Rattle.protocol.proofs.Recovery.Laws.Lookups.{entry_key, logged_key}

-- ---- the numbers of chares and machines
pub chare_known : (c : ℕ) → 1 ≤ c → c ≤ 12 → c ∈ every_chare
unfolding counting every_chare
chare_known c p q = mem_counting 12 1 c p (omega arith)

pub chare_positive : {c : ℕ} → c ∈ every_chare → 1 ≤ c
unfolding counting every_chare
chare_positive i = counting_mem 12 1 i

pub machine_known : (p : ℕ) → 1 ≤ p → p ≤ 6 → p ∈ every_machine
unfolding counting every_machine
machine_known p h k = mem_counting 6 1 p h (omega arith)

pub machine_positive : {p : ℕ} → p ∈ every_machine → 1 ≤ p
unfolding counting every_machine
machine_positive i = counting_mem 6 1 i

pub between_true : (a b x : ℕ) → between a b x ≡ true → (a ≤ x) × (x ≤ b)
unfolding between
between_true a b x e = (leb-true a x (and_l _ _ e), leb-true x b (and_r (leb a x) _ e))

pub true_between : (a b x : ℕ) → a ≤ x → x ≤ b → between a b x ≡ true
unfolding between
true_between a b x p q = and_i _ _ (le-leb a x p) (le-leb x b q)

-- ---- jobs
pub no_job_ok : JobOk no_job
unfolding no_job receivers ports port
no_job_ok = record {
  desk = refl;
  chare = λ c h. absurd (h refl);
  machine = λ c h. absurd (h refl);
  ports = λ c hops. either (eqb hops 0) (λ e. rw e (all_nil _)) (λ e. rw e (all_nil _));
  buddies = λ p i e. let h = machine_positive i in omega arith;
  unset = λ _ c. refl;
  range = λ c h k. absurd (omega arith);
}

buddy_ok : (b : List ℕ) (p : ℕ) → buddy_in_range b p ≡ true → buddy_byte b p ≢ p
unfolding buddy_in_range
buddy_ok b p e q = true_not_false (rw (eq-eqb _ _ q) at (and_r (leb (buddy_byte b p) (machines_of b)) _ e)) refl

-- what the three numbers of a chare are
record Numbers (b : List ℕ) (c : ℕ) : Type 0 where
  home : (1 ≤ chare_byte b c 0) × (chare_byte b c 0 ≤ machines_of b)
  first : chare_byte b c 1 ≤ chares_of b
  second : chare_byte b c 2 ≤ chares_of b

numbers_ok : (b : List ℕ) (c : ℕ) → chare_in_range b c ≡ true → Numbers b c
unfolding chare_in_range
numbers_ok b c e =
    let h = between 1 (machines_of b) (chare_byte b c 0) in
    let f = leb (chare_byte b c 1) (chares_of b) in
    let two = and_l (h && f) _ e in
    record { home = between_true _ _ _ (and_l h f two); first = leb-true _ _ (and_r h f two); second = leb-true _ _ (and_r (h && f) _ e) }

-- what the numbers of a job frame are
record InRange (b : List ℕ) : Type 0 where
  machines : (2 ≤ machines_of b) × (machines_of b ≤ 6)
  chares : chares_of b ≤ 12
  buddies : (p : ℕ) → 1 ≤ p → p ≤ machines_of b → buddy_byte b p ≢ p
  numbers : (c : ℕ) → 1 ≤ c → c ≤ chares_of b → Numbers b c

in_range : (b : List ℕ) → job_in_range b ≡ true → InRange b
unfolding job_in_range
in_range b e =
    let m = between 2 6 (machines_of b) in
    let c = between 1 12 (chares_of b) in
    let p = allb (buddy_in_range b) (keep (λ p. leb p (machines_of b)) every_machine) in
    let three = and_l (m && c && p) _ e in
    let two = and_l (m && c) p three in
    let machines = between_true 2 6 _ (and_l m c two) in
    let chares = (between_true 1 12 _ (and_r m c two)).1 in
    record {
      machines = machines;
      chares = chares;
      buddies = λ q h k. buddy_ok b q (allb_true _ _ (and_r (m && c) p three) q (mem_keep _ (machine_known q h (omega arith)) (le-leb _ _ k)));
      numbers = λ q h k. numbers_ok b q (allb_true _ _ (and_r (m && c && p) _ e) q (mem_keep _ (chare_known q h (omega arith)) (le-leb _ _ k)));
    }

module _ (b : List ℕ) where
  -- a chare of the job is one of its numbers
  chare_has : (c : ℕ) → Chare (job_of b) c → has_chare b c ≡ true
  unfolding job_of
  chare_has c h = either (has_chare b c) (λ e. e) (λ e. absurd (h (rw e)))

  pub chare_bounds : (c : ℕ) → Chare (job_of b) c → (1 ≤ c) × (c ≤ chares_of b)
  unfolding has_chare
  chare_bounds c h = between_true 1 (chares_of b) c (chare_has c h)

  home_byte : (c : ℕ) → 1 ≤ c → c ≤ chares_of b → (job_of b).home c ≡ chare_byte b c 0
  unfolding job_of has_chare
  home_byte c p q = rw (true_between 1 (chares_of b) c p q)

  desk_home : (job_of b).home 0 ≡ 0
  unfolding job_of has_chare between
  desk_home = refl

module _ (b : List ℕ) (range : InRange b) where
  chare_ok : (c : ℕ) → 1 ≤ c → c ≤ chares_of b → Chare (job_of b) c
  chare_ok c p q e = let h = (range.numbers c p q).home in let k = home_byte b c p q in omega arith

  port_ok : (r : ℕ) → r ≤ chares_of b → All (Chare (job_of b)) (port r)
  unfolding port
  port_ok r h = either (eqb r 0)
      (λ e. rw e (all_nil _))
      (λ e. rw e (all_cons (chare_ok r (let d = eqb-false r 0 e in omega arith) h) (all_nil _)))

  -- a port that is in range where there is a chare, and none elsewhere
  port_byte : (c i : ℕ) → (1 ≤ c → c ≤ chares_of b → chare_byte b c i ≤ chares_of b) → All (Chare (job_of b)) (port (cond (has_chare b c) (chare_byte b c i) 0))
  unfolding has_chare
  port_byte c i h = either (has_chare b c)
      (λ e. let k = between_true 1 (chares_of b) c e in rw e (port_ok (chare_byte b c i) (h k.0 k.1)))
      (λ e. rw e (port_ok 0 (omega arith)))

  ports_ok : (c hops : ℕ) → All (Chare (job_of b)) (receivers (ports (job_of b)) c hops)
  unfolding receivers ports job_of
  ports_ok c hops =
      let first = port_byte c 1 (λ p q. (range.numbers c p q).first) in
      let second = port_byte c 2 (λ p q. (range.numbers c p q).second) in
      either (eqb hops 0) (λ e. rw e (all_nil _)) (λ e. rw e (all_append _ first second))

  previous_differs : (p : ℕ) → 1 ≤ p → previous_machine (machines_of b) p ≢ p
  unfolding previous_machine
  previous_differs p low e = either (eqb p 1)
      (λ q. let k = eqb-true p 1 q in let h = rw q at e in let m = range.machines in omega arith)
      (λ q. let h = rw q at e in omega arith)

  given_differs : (p : ℕ) → 1 ≤ p → p ≤ machines_of b → cond (eqb (buddy_byte b p) 0) (previous_machine (machines_of b) p) (buddy_byte b p) ≢ p
  given_differs p h k e = either (eqb (buddy_byte b p) 0)
      (λ z. previous_differs p h (rw z at e))
      (λ z. range.buddies p h k (rw z at e))

  buddy_differs : (p : ℕ) → p ∈ every_machine → (job_of b).buddy p ≢ p
  unfolding job_of has_machine
  buddy_differs p i e = either (has_machine b p)
      (λ q. let k = between_true 1 (machines_of b) p q in given_differs p k.0 k.1 (rw q at e))
      (λ q. let h = machine_positive i in let z = rw q at e in omega arith)

  range_ok : JobOk (job_of b)
  unfolding job_of
  range_ok = record {
    desk = desk_home b;
    chare = λ c h. let k = chare_bounds b c h in let m = range.chares in chare_known c k.0 (omega arith);
    machine = λ c h.
        let k = chare_bounds b c h in
        let m = range.machines in
        let n = (range.numbers c k.0 k.1).home in
        let e = home_byte b c k.0 k.1 in
        machine_known ((job_of b).home c) (omega arith) (omega arith);
    ports = ports_ok;
    buddies = buddy_differs;
    unset = λ e. true_not_false refl e;
    range = chare_ok;
  }

pub job_ok : (b : List ℕ) → job_in_range b ≡ true → JobOk (job_of b)
job_ok b e = range_ok b (in_range b e)

-- ---- the run that has not begun
not_sent {κ} : {X : Type κ} (m : Message) → Sent run_start m → X
unfolding run_start
not_sent m i = absurd (let h = (ok_start no_job).bounds m i in omega arith)

not_in {κ} : {X : Type κ} {s n : ℕ} (k : ℕ) → In (take k []) s n → X
not_in zero h = absurd (Memᴰ.not-nil h.member)
not_in (suc k) h = absurd (Memᴰ.not-nil h.member)

all_empty : {A : Type 0} (P : A → Type 0) {l : List A} → l ≡ [] → All P l
all_empty P e = subst (All P) (sym e) (all_nil P)

-- ---- memories that nothing has happened to
record New (j : Job) (mem : ℕ → Memory) : Type 0 where
  desk : mem 0 ≡ blank
  chare : (c : ℕ) → Chare j c → mem c ≡ new_memory c
  logs : (c : ℕ) → (mem c).log ≡ []

-- a state of such memories and copies, and nothing else
abbrev new_state : Job → (ℕ → Bool) → (ℕ → Memory) → State
new_state j held mem = record {
  job = j;
  lost = false;
  status = λ _. Up;
  target = λ _. 0;
  live = mem;
  held = held;
  copy = mem;
  notes = λ _. [];
  wire = [];
}

module _ {j : Job} (ok : JobOk j) {mem : ℕ → Memory} (new : New j mem) where
  new_height : (c : ℕ) → Chare j c → (mem c).height ≡ 0
  unfolding new_memory
  new_height c chare = ap (λ (m : Memory). m.height) (new.chare c chare)

  new_table : (c : ℕ) → Chare j c → (mem c).table ≡ []
  unfolding new_memory
  new_table c chare = ap (λ (m : Memory). m.table) (new.chare c chare)

  new_counts : (a : ℕ) → Sender j a → ((mem a).log ≡ []) × ((mem a).sn ≡ (λ _. 0))
  unfolding new_memory blank
  new_counts a (inl e) = let k = ap mem e ∙ new.desk in (ap (λ (m : Memory). m.log) k, ap (λ (m : Memory). m.sn) k)
  new_counts a (inr h) = let k = new.chare a h in (ap (λ (m : Memory). m.log) k, ap (λ (m : Memory). m.sn) k)

  new_image : (c : ℕ) → Chare j c → Image j run_start c (mem c) (mem c).sn
  unfolding run_start new_memory local_start
  new_image c chare = subst (λ m. Image j run_start c m m.sn) (sym (new.chare c chare)) (record {
    reached = omega arith;
    state = sym (ap (λ (l : Local). l.state) (folded_nil j c));
    counts = sym (ap (λ (l : Local). l.sn) (folded_nil j c));
    marks = marked_blank _ (λ s. refl) (λ s i. refl);
  })

  new_log : (a : ℕ) → Sender j a → Log j run_start (λ _. 0) mem a (mem a).log (mem a).sn
  new_log a h = let (l, f) = new_counts a h in subst₂ (Log j run_start (λ _. 0) mem a) (sym l) (sym f) (record {
    sent = all_nil _;
    owner = all_nil _;
    counted = all_nil _;
    keys = nodup_nil logged_key;
    tick = all_nil _;
    local = all_nil _;
    whole = λ r n p q. absurd (omega arith);
  })

  new_tables : Tables j run_start (λ _. 0) mem
  unfolding run_start
  new_tables c chare = subst (Table run_start c 0) (sym (new_table c chare)) (record {
    complete = λ t p q. absurd (omega arith);
    positive = all_nil _;
    tns = nodup_nil _;
    keys = nodup_nil entry_key;
    sent = all_nil _;
    past = all_nil _;
    fresh = all_nil _;
    reach = all_nil _;
    body = all_nil _;
  })

  new_copies : (held : ℕ → Bool) → Copies j run_start (λ _. 0) mem held mem
  unfolding run_start
  new_copies held c chare _ =
      let log = (new_counts c (inr chare)).0 in
      record {
        image = new_image c chare;
        log = new_log c (inr chare);
        ordered = λ s n _ i. not_in (mem c).height i;
        kept = all_empty _ log;
        local = all_empty _ log;
        table = all_empty _ (new_table c chare);
      }

  new_images : Images j run_start nothing_pending mem
  unfolding run_start Owed
  new_images = record {
    image = λ c chare. subst (Image j run_start c (mem c)) (sym (counted_nothing c (mem c).sn)) (new_image c chare);
    desk = counted_nothing 0 (mem 0).sn ∙ (new_counts 0 (inl refl)).1;
    owed = tt;
    owing = inl refl;
    owed_to = all_nil _;
  }

  new_inv : (held : ℕ → Bool) → InvP nothing_pending (world (new_state j held mem) run_start (λ _. 0) mem)
  unfolding run_start
  new_inv held = record {
    job = ok;
    domain = record { receiver = λ m i. not_sent m i; sender = λ m i. not_sent m i };
    machines = record { desk = refl; one = λ p q h. absurd (h refl); covered = λ p e. absurd (down_not_up (sym e)) };
    images = new_images;
    heights = record {
      normal = λ c chare _. new_height c chare;
      catching_up = λ c chare _. omega arith;
      down = λ c chare _. new_height c chare;
      above_stable = λ c chare. omega arith;
      copied = λ c chare _. new_height c chare;
    };
    tables = new_tables;
    ordered = record {
      received = λ c chare. all_empty _ (new_table c chare);
      worked = λ c s n chare _ i. not_in (mem c).height i;
    };
    remembered = λ c chare. all_empty _ (new_table c chare);
    noted = record {
      unnoted = λ c chare. all_empty _ (new_table c chare);
      noted = λ c chare _. all_empty _ (new_table c chare);
    };
    logs = new_log;
    copies = new_copies held;
    notes = λ p. all_nil _;
    wire = all_nil _;
  }

  new_carried : (held : ℕ → Bool) → Carried (new_state j held mem) no_history
  unfolding run_start no_history
  new_carried held = record {
    works = [];
    run = run_start;
    stable = λ _. 0;
    is_run = started j;
    chares = all_nil _;
    good = record {
      mem = mem;
      linked = record { up = λ c _. refl; down = λ c _ e. absurd (down_not_up (sym e)) };
      inv = new_inv held;
      silent = λ a _ _. new.logs a;
    };
    told = record {
      sequence = λ c chare _. sym (ap (λ k. take k []) (new_height c chare));
      saved = λ c chare. refl;
      nobody = λ c _. (refl, refl);
    };
    waiting = record { unworked = all_empty _ (new.logs 0) };
  }

no_log : (b : List ℕ) (c : ℕ) → (first_memory b c).log ≡ []
unfolding first_memory new_memory blank
no_log b c = either (has_chare b c) (λ e. rw e) (λ e. rw e)

pub carried_start : Carried start no_history
unfolding start no_job blank
carried_start = new_carried no_job_ok (record { desk = refl; chare = λ c h. absurd (h refl); logs = λ c. refl }) (λ _. false)

pub carried_job : (b : List ℕ) → job_in_range b ≡ true → Carried (begin b) no_history
unfolding begin first_memory has_chare between
carried_job b e = new_carried (job_ok b e) (record { desk = refl; chare = λ c h. rw (chare_has b c h); logs = λ c. no_log b c }) (has_machine b)
