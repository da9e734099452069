-- A part of the store put anew changes that part of the view, and no other. All arithmetic on places is here.
use Rattle.std.specs.Prelude.{◌≡◌, refl, Bool, List, ℕ, ◌+◌, ◌-◌, ◌<◌, ◌≤◌, eqb, length, set}
use Rattle.std.proofs.Common.{sym, ap, ◌∙◌, arith}
use Rattle.lists.specs.Map.{upd}
use Rattle.protocol.specs.{declared.Status.Status, Parts.{Job, State, Memory}, Setters.{with_lost, with_status, with_memory, with_copies, with_notes, with_wire}}
use Rattle.words.specs.{Part.{part, put, put_length, part_length, part_put, part_behind}, PartSet.part_set_before}
use Rattle.words.specs.{Slots.{slots, slot_here, slots_before, slots_behind, slots_put, slots_set}}
use Rattle.head.specs.{Head.{HEAD, LOST, STATUS, HELD, TARGET, job_of, lost_of, status_of, held_of, target_of, as_status}, Kept.{Says, head_kept, head_put}}
use Rattle.head.specs.{Sets.{over, set_lost, set_status, set_held, set_target}}
use Rattle.notelist.specs.Notes.{notes}
use Rattle.packets.specs.Words.{packets}
use Rattle.memory.specs.{Places.MEMORY, View.memory_view}
use Rattle.store.specs.{Places.{LIVE, COPY, NOTES, NOTELIST, WIRE, PACKETS, STORE, live_from, copy_from, notes_from}, View.view}

-- the copy of chare c becomes m
abbrev pub with_copy : State → ℕ → Memory → State
with_copy s c m = with_copies s s.held (upd c m s.copy) s.notes

-- the head becomes that of h
abbrev pub with_head : State → List ℕ → State
with_head s h = record { job = job_of h; lost = lost_of h; status = status_of h; target = target_of h; live = s.live; held = held_of h; copy = s.copy; notes = s.notes; wire = s.wire }

-- a memory lent has the memory's length
pub span : (c : ℕ) → (live_from c + MEMORY) - live_from c ≡ MEMORY
span c = omega arith

-- a chare's memory and its copy do not meet
pub apart : (c : ℕ) → c < 13 → live_from c + MEMORY ≤ copy_from c
apart c h = omega arith

module _ (xs : List ℕ) where
  pub wire_at : (view xs).wire ≡ packets (part WIRE PACKETS xs)
  unfolding view
  wire_at = refl

  pub live_at : (c : ℕ) → c < 13 → (view xs).live c ≡ memory_view (part (live_from c) MEMORY xs)
  unfolding view
  live_at c h = ap memory_view (slot_here LIVE MEMORY 13 xs c h)

  pub copy_at : (c : ℕ) → c < 13 → (view xs).copy c ≡ memory_view (part (copy_from c) MEMORY xs)
  unfolding view
  copy_at c h = ap memory_view (slot_here COPY MEMORY 13 xs c h)

  pub notes_at : (p : ℕ) → p < 7 → (view xs).notes p ≡ notes (part (notes_from p) NOTELIST xs)
  unfolding view
  notes_at p h = ap notes (slot_here NOTES NOTELIST 7 xs p h)

-- a list whose head says this and that has these parts
shown : (vs : List ℕ) {j : Job} {l : Bool} {s : ℕ → Status} {h : ℕ → Bool} {t : ℕ → ℕ} {a b c : ℕ → List ℕ} {d : List ℕ}
    → Says vs j l s h t → slots LIVE MEMORY 13 vs ≡ a → slots COPY MEMORY 13 vs ≡ b → slots NOTES NOTELIST 7 vs ≡ c → part WIRE PACKETS vs ≡ d
    → view vs ≡ record { job = j; lost = l; status = s; target = t; live = λ i. memory_view (a i); held = h; copy = λ i. memory_view (b i); notes = λ i. notes (c i); wire = packets d }
unfolding view
shown vs says p q r e = rw (says.job, says.lost, says.status, says.held, says.target, p, q, r, e)

-- ---- one word of the head set
module _ (xs : List ℕ) (size : length xs ≡ STORE) (w : ℕ) where
  -- what the head then says
  said : (i : ℕ) → i < HEAD → {j : Job} {l : Bool} {s : ℕ → Status} {h : ℕ → Bool} {t : ℕ → ℕ} → Says (set xs i w) j l s h t
      → view (set xs i w) ≡ record { job = j; lost = l; status = s; target = t; live = (view xs).live; held = h; copy = (view xs).copy; notes = (view xs).notes; wire = (view xs).wire }
  unfolding view
  said i low says =
      shown (set xs i w) says
      (slots_set LIVE MEMORY 13 xs i w (omega arith))
      (slots_set COPY MEMORY 13 xs i w (omega arith))
      (slots_set NOTES NOTELIST 7 xs i w (omega arith))
      (part_set_before WIRE PACKETS xs w i (omega arith))

  pub lost_set : view (set xs LOST w) ≡ with_lost (view xs) (eqb w 1)
  unfolding view
  lost_set = said LOST (omega arith) (set_lost xs w (omega arith))

  pub status_set : (p : ℕ) → p < 7 → view (set xs (STATUS + p) w) ≡ with_status (view xs) (upd p (as_status w) (view xs).status) (view xs).target
  unfolding view
  status_set p h = said (STATUS + p) (omega arith) (set_status xs w (omega arith) p h)

  pub held_set : (p : ℕ) → p < 7 → view (set xs (HELD + p) w) ≡ with_copies (view xs) (upd p (eqb w 1) (view xs).held) (view xs).copy (view xs).notes
  unfolding view
  held_set p h = said (HELD + p) (omega arith) (set_held xs w (omega arith) p h)

  pub target_set : (c : ℕ) → c < 13 → view (set xs (TARGET + c) w) ≡ with_status (view xs) (view xs).status (upd c w (view xs).target)
  unfolding view
  target_set c h = said (TARGET + c) (omega arith) (set_target xs w (omega arith) c h)

module _ (xs : List ℕ) (size : length xs ≡ STORE) where
  -- ---- the head
  module _ (ys : List ℕ) (long : length ys ≡ HEAD) where
    pub whole_head_put : view (put 0 HEAD xs ys) ≡ with_head (view xs) ys
    unfolding view
    whole_head_put =
        shown (put 0 HEAD xs ys) (head_put xs ys (omega arith) long)
        (slots_behind LIVE MEMORY 13 xs 0 HEAD ys (omega arith) long (omega arith))
        (slots_behind COPY MEMORY 13 xs 0 HEAD ys (omega arith) long (omega arith))
        (slots_behind NOTES NOTELIST 7 xs 0 HEAD ys (omega arith) long (omega arith))
        (part_behind 0 HEAD xs ys (omega arith) long WIRE PACKETS (omega arith))

  -- ---- chare c
  module _ (c : ℕ) (h : c < 13) (ys : List ℕ) (long : length ys ≡ MEMORY) where
    pub live_length : length (put (live_from c) MEMORY xs ys) ≡ STORE
    live_length = put_length (live_from c) MEMORY xs ys (omega arith) long ∙ size

    pub live_put : view (put (live_from c) MEMORY xs ys) ≡ with_memory (view xs) c (memory_view ys)
    unfolding view
    live_put =
        shown (put (live_from c) MEMORY xs ys) (head_kept (live_from c) MEMORY xs ys (omega arith) long (omega arith))
        (slots_put LIVE MEMORY 13 xs c ys h (omega arith) long)
        (slots_behind COPY MEMORY 13 xs (live_from c) MEMORY ys (omega arith) long (omega arith))
        (slots_behind NOTES NOTELIST 7 xs (live_from c) MEMORY ys (omega arith) long (omega arith))
        (part_behind (live_from c) MEMORY xs ys (omega arith) long WIRE PACKETS (omega arith))
        ∙ rw (over memory_view c ys (slots LIVE MEMORY 13 xs))

    pub copy_put : view (put (copy_from c) MEMORY xs ys) ≡ with_copy (view xs) c (memory_view ys)
    unfolding view
    copy_put =
        shown (put (copy_from c) MEMORY xs ys) (head_kept (copy_from c) MEMORY xs ys (omega arith) long (omega arith))
        (slots_before LIVE MEMORY 13 xs (copy_from c) MEMORY ys (omega arith) long (omega arith))
        (slots_put COPY MEMORY 13 xs c ys h (omega arith) long)
        (slots_behind NOTES NOTELIST 7 xs (copy_from c) MEMORY ys (omega arith) long (omega arith))
        (part_behind (copy_from c) MEMORY xs ys (omega arith) long WIRE PACKETS (omega arith))
        ∙ rw (over memory_view c ys (slots COPY MEMORY 13 xs))

    pub wire_kept : part WIRE PACKETS (put (live_from c) MEMORY xs ys) ≡ part WIRE PACKETS xs
    wire_kept = part_behind (live_from c) MEMORY xs ys (omega arith) long WIRE PACKETS (omega arith)

    -- as the functions on the memory answer
    pub live_changed : (f : Memory → Memory) → memory_view ys ≡ f (memory_view (part (live_from c) MEMORY xs)) → view (put (live_from c) MEMORY xs ys) ≡ with_memory (view xs) c (f ((view xs).live c))
    live_changed f e = live_put ∙ ap (with_memory (view xs) c) (e ∙ ap f (sym (live_at xs c h)))

  -- the memory of chare c copied over its copy
  pub copied : (c : ℕ) → c < 13 → view (put (copy_from c) MEMORY xs (part (live_from c) MEMORY xs)) ≡ with_copy (view xs) c ((view xs).live c)
  copied c h = copy_put c h (part (live_from c) MEMORY xs) (part_length (live_from c) MEMORY xs (omega arith)) ∙ ap (with_copy (view xs) c) (sym (live_at xs c h))

  -- ---- the notes kept for machine p
  module _ (p : ℕ) (h : p < 7) (ys : List ℕ) (long : length ys ≡ NOTELIST) where
    pub notes_length : length (put (notes_from p) NOTELIST xs ys) ≡ STORE
    notes_length = put_length (notes_from p) NOTELIST xs ys (omega arith) long ∙ size

    pub notes_put : view (put (notes_from p) NOTELIST xs ys) ≡ with_notes (view xs) (upd p (notes ys) (view xs).notes)
    unfolding view
    notes_put =
        shown (put (notes_from p) NOTELIST xs ys) (head_kept (notes_from p) NOTELIST xs ys (omega arith) long (omega arith))
        (slots_before LIVE MEMORY 13 xs (notes_from p) NOTELIST ys (omega arith) long (omega arith))
        (slots_before COPY MEMORY 13 xs (notes_from p) NOTELIST ys (omega arith) long (omega arith))
        (slots_put NOTES NOTELIST 7 xs p ys h (omega arith) long)
        (part_behind (notes_from p) NOTELIST xs ys (omega arith) long WIRE PACKETS (omega arith))
        ∙ rw (over notes p ys (slots NOTES NOTELIST 7 xs))

  -- ---- the wire
  module _ (ys : List ℕ) (long : length ys ≡ PACKETS) where
    pub wire_put : view (put WIRE PACKETS xs ys) ≡ with_wire (view xs) (packets ys)
    unfolding view
    wire_put =
        shown (put WIRE PACKETS xs ys) (head_kept WIRE PACKETS xs ys (omega arith) long (omega arith))
        (slots_before LIVE MEMORY 13 xs WIRE PACKETS ys (omega arith) long (omega arith))
        (slots_before COPY MEMORY 13 xs WIRE PACKETS ys (omega arith) long (omega arith))
        (slots_before NOTES NOTELIST 7 xs WIRE PACKETS ys (omega arith) long (omega arith))
        (part_put WIRE PACKETS xs ys (omega arith) long)
