-- The lines of a job as the loop writes them.
use Rattle.std.specs.Prelude.{◌≡◌, refl, List, [], ◌++◌, ℕ, ◌+◌, ◌-◌, ◌*◌, ◌<◌, ◌≤◌, length}
use Rattle.std.proofs.Common.{sym, ◌∙◌, append-nil, append_assoc, arith}
use Rattle.lists.specs.{Lists.gather, Counting.{counting, counting_next, counting_past}}
use Rattle.arrays.specs.{Copies.{put_at, Wrote, wrote_put}}
use Rattle.protocol.specs.{Parts.Job}
use Rattle.crashsets.specs.{CrashSets.{total, survived, count_line, counts}}
use Rattle.crashsets.specs.Digits.{line_fits, total_small, survived_small}

-- ---- the loop over f: the lines of those before f are written to the front of a buffer that held room
module _ (j : Job) where
  abbrev line_of : ℕ → List ℕ
  line_of f = count_line f (total j f) (survived j f)

  pub record SoFar (room : List ℕ) (f w : ℕ) (out : List ℕ) : Type 0 where
    pub printed : List ℕ
    pub wrote : Wrote room printed w out
    pub rest : counts j ≡ printed ++ gather line_of (counting (j.machines + 1 - f) f)
    pub fits : w + 8 ≤ 8 * f

  pub nothing_yet : (room : List ℕ) → SoFar room 1 0 room
  unfolding counts
  nothing_yet room = record { printed = []; wrote = record { count = refl; bytes = refl }; rest = let e : j.machines + 1 - 1 ≡ j.machines = omega arith in rw e; fits = omega arith }

  module _ (few : j.machines ≤ 6) (room : List ℕ) (f w : ℕ) (out : List ℕ) (inv : SoFar room f w out) where
    pub one_more : f ≤ j.machines → (n k v : ℕ) (next : List ℕ) → n ≡ total j f → k ≡ survived j f → v ≡ w + length (count_line f n k) → next ≡ put_at out w (count_line f n k) → SoFar room (f + 1) v next
    unfolding gather
    one_more h n k v next is-n is-k is-v is-next =
        rw (is-v, is-next, is-n, is-k)
        (record {
          printed = inv.printed ++ line_of f;
          wrote = wrote_put inv.wrote (line_of f);
          rest = inv.rest ∙ rw (counting_next (j.machines + 1) f (omega arith)) (sym (append_assoc inv.printed (line_of f) _));
          fits = omega (arith, inv.fits, line_fits f (total j f) (survived j f) (omega arith) (total_small j f few) (survived_small j f few));
        })

    pub all_lines : j.machines < f → Wrote room (counts j) w out
    unfolding gather
    all_lines h =
        let e : counts j ≡ inv.printed = inv.rest ∙ rw (counting_past (j.machines + 1) f (omega arith), append-nil) in
        rw e inv.wrote
