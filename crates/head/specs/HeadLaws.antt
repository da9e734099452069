-- What holds of every head, and what the branches of the code find.
use Rattle.std.specs.Prelude.{not, List, ◌≡◌, refl, ℕ, ◌≤◌, min, eqb, length, get_or}
use Rattle.std.proofs.Common.{arith, eqb-true}
use Rattle.std.proofs.Math.Path.{fun_ext}
use Rattle.lists.specs.Tests.{either}
use Rattle.protocol.specs.Parts.{Job, is_down}
use Rattle.words.specs.Part.{part, part_length}
use Rattle.head.specs.{Head.{BUDDY, HOME, FIRST, SECOND, HEAD, cell, job_of, as_status}, Cells.cell_end}

pub job_is : (h : List ℕ) (j : Job)
    → eqb (get_or (part 0 4 h) 0 0) 1 ≡ j.set
    → min (get_or (part 0 4 h) 2 0) 6 ≡ j.machines
    → min (get_or (part 0 4 h) 3 0) 12 ≡ j.chares
    → ((k : ℕ) → cell 6 (part BUDDY 7 h) k ≡ j.buddy k)
    → ((k : ℕ) → cell 6 (part HOME 13 h) k ≡ j.home k)
    → ((k : ℕ) → cell 12 (part FIRST 13 h) k ≡ j.first k)
    → ((k : ℕ) → cell 12 (part SECOND 13 h) k ≡ j.second k)
    → job_of h ≡ j
unfolding job_of
job_is h j s m c b o f g = rw (s, m, c, fun_ext b, fun_ext o, fun_ext f, fun_ext g)

module _ (h : List ℕ) where
  pub machines_top : (job_of h).machines ≤ 6
  unfolding job_of
  machines_top = omega arith

  pub chares_top : (job_of h).chares ≤ 12
  unfolding job_of
  chares_top = omega arith

  -- the desk is on no machine, and no machine is number 0
  pub home_desk : (job_of h).home 0 ≡ 0
  unfolding job_of cell
  home_desk = refl

  -- nor is any chare past the last
  pub home_beyond : HEAD ≤ length h → (c : ℕ) → 13 ≤ c → (job_of h).home c ≡ 0
  unfolding job_of
  home_beyond long c g = cell_end 6 (part HOME 13 h) c (rw (part_length HOME 13 h (omega arith)) g)

-- a machine's word says whether it is up
pub not_down : (w : ℕ) → not (eqb w 1) ≡ not (is_down (as_status w))
unfolding as_status is_down
not_down w = either (eqb w 0)
    (λ e. rw (eqb-true w 0 e))
    (λ e. either (eqb w 1) (λ f. rw (e, f)) (λ f. rw (e, f)))
