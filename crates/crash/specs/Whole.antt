-- The parts of a crash, put together, are the definition's; and what the frame leaves.
use Rattle.std.specs.Prelude.{◌≡◌, refl, Bool, true, false, List, ◌++◌, ℕ, ◌+◌, ◌<◌, length, set, take, drop}
use Rattle.std.proofs.Common.{sym, ap, ◌∙◌, arith, length-drop}
use Rattle.std.proofs.lemmas.List.{append-nil, take_all, drop_all}
use Rattle.lists.specs.{Lists.keep, Questions.{first_no, put_all}}
use Rattle.protocol.specs.{declared.Rule.TheVariants.Other, declared.Answer.TheVariants.{Accepted, Lost}, Parts.State, Setters.{with_lost, with_live, with_copies, with_wire}}
use Rattle.protocol.specs.{Crash.{has_cover, survives, crash}, Questions.crash_questions, Step.{Outcome, judged}}
use Rattle.words.specs.Part.{part, put}
use Rattle.head.specs.{Head.{HEAD, STATUS, LOST, job_of, as_status}, Kept.{head_part, part_front}}
use Rattle.packets.specs.Words.{packets}
use Rattle.store.specs.{Places.{STORE, WIRE, PACKETS}, View.{view, outcome, done, tried, Framed}, ViewLaws.{wire_put, status_set, lost_set}, Framing.{answered, accepted}}

-- with cover, or without; machines settle later
unfoldable pub crash_tried : State → ℕ → Bool → Outcome
crash_tried s p true = done Other (crash s p)
crash_tried s p false = record { state = with_lost s true; answer = Lost }

-- the wire: h is the head
pub wire_is : (xs h ys : List ℕ) (p : ℕ) → length xs ≡ STORE → length ys ≡ PACKETS → h ≡ part 0 HEAD xs → packets ys ≡ keep (survives (job_of h) p) (packets (part WIRE PACKETS xs))
    → view (put WIRE PACKETS xs ys) ≡ with_wire (view xs) (crash (view xs) p).wire
unfolding crash view
wire_is xs h ys p size long is-h e = wire_put xs size ys long ∙ ap (with_wire (view xs)) (e ∙ rw (is-h, (head_part xs).job))

-- the wire lent beside all before it: h is the front, w the wire, ys what becomes of it
module _ (xs : List ℕ) (size : length xs ≡ STORE) (h w : List ℕ) (is-h : h ≡ take WIRE xs) (is-w : w ≡ drop WIRE xs) where
  front_says : job_of h ≡ job_of xs
  front_says = rw is-h (sym (head_part (take WIRE xs)).job ∙ ap job_of (part_front 0 HEAD WIRE xs (omega arith)) ∙ (head_part xs).job)

  lent : w ≡ part WIRE PACKETS xs
  lent = is-w ∙ sym (take_all PACKETS (drop WIRE xs) (simp length-drop (omega arith)))

  joined : (ys : List ℕ) → h ++ ys ≡ put WIRE PACKETS xs ys
  joined ys = rw (is-h, drop_all PACKETS (drop WIRE xs) (simp length-drop (omega arith)), append-nil)

  pub wire_beside : (ys : List ℕ) (p : ℕ) → length ys ≡ PACKETS → packets ys ≡ keep (survives (job_of h) p) (packets w) → view (h ++ ys) ≡ with_wire (view xs) (crash (view xs) p).wire
  unfolding crash view
  wire_beside ys p long e = ap view (joined ys) ∙ wire_put xs size ys long ∙ ap (with_wire (view xs)) (e ∙ rw (front_says, lent))

-- down; the memories, the copies, the notes, the packets gone
pub crash_is : (xs : List ℕ) (p : ℕ) (t u v w : State) → length xs ≡ STORE → p < 7
    → t ≡ with_live (view (set xs (STATUS + p) 1)) (crash (view (set xs (STATUS + p) 1)) p).live
    → u ≡ with_copies t t.held (crash t p).copy t.notes
    → v ≡ with_copies u (crash u p).held u.copy (crash u p).notes
    → w ≡ with_wire v (crash v p).wire
    → w ≡ crash (view xs) p
unfolding crash as_status
crash_is xs p t u v w size h is-t is-u is-v is-w = is-w ∙ rw (is-v, is-u, is-t, status_set xs size 1 p h)

-- every question is answered "yes"; b is whether it has cover
module _ (xs : List ℕ) (p : ℕ) (e : 0 ≡ first_no (crash_questions (view xs) p)) (b : Bool) (is_b : b ≡ has_cover (view xs) p) where
  abbrev the_outcome : Outcome
  the_outcome = judged (view xs) (put_all (crash_questions (view xs) p) (crash_tried (view xs) p (has_cover (view xs) p)))

  pub covered : b ≡ true → (ys : List ℕ) → view ys ≡ crash (view xs) p → Framed xs ys (Accepted Other) the_outcome
  unfolding tried crash_tried crash_questions
  covered c ys q = rw (← is_b, c) (accepted xs _ 0 e refl ys (crash (view xs) p) refl q)

  pub uncovered : b ≡ false → length xs ≡ STORE → Framed xs (set xs LOST 1) Lost the_outcome
  unfolding outcome crash_tried crash_questions
  uncovered c size = answered xs _ 0 e refl (set xs LOST 1) Lost _ (λ m y. cc) refl (rw (← is_b, c, lost_set xs size 1))
