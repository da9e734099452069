-- The parts of a checkpoint on a whole state; put together, they are the definition's.
use Rattle.std.specs.Prelude.{◌≡◌, refl, true, [], ℕ}
use Rattle.std.proofs.Common.{ap, ◌∙◌}
use Rattle.lists.specs.{Lists.keep, Map.upd}
use Rattle.protocol.specs.{Parts.{Memory, State, up}, Setters.{with_log, with_live, with_copies}, Checkpoint.{prune, fix_copy, clean_log, clean_logs, checkpoint}}
use Rattle.logs.specs.{Log.is_kept, CleanUp.{heights_on, stays_is_kept}}
use Rattle.store.specs.Visits.{chosen}

-- the chares on machine p, pruned, become its copy
unfoldable pub fixed : State → ℕ → State
fixed s p = let t = prune s p in with_copies t t.held (fix_copy t p).copy t.notes

-- its buddy holds the copy, and no notes
unfoldable pub holding : State → ℕ → State
holding s p = with_copies s (upd p true s.held) s.copy (upd p [] s.notes)

-- a memory whose log drops what lies below the limits
unfoldable pub cleaned : (ℕ → ℕ) → Memory → Memory
cleaned limit m = with_log m (keep (is_kept limit) m.log)

-- every log at the desk or on a machine that is up does so
unfoldable pub clean_up : (ℕ → ℕ) → State → State
clean_up limit s = with_live s (chosen (λ c. up s (s.job.home c)) (λ c. cleaned limit (s.live c)) s.live)

-- cleaned by the heights of p's chares, the logs keep what the definition lets stay
cleaned_is : (s : State) (p : ℕ) → clean_up (heights_on s p) s ≡ clean_logs s p
unfolding clean_up clean_logs clean_log chosen cleaned
cleaned_is s p = rw (← stays_is_kept s p)

-- fixed; held; cleaned
pub checkpoint_is : (s t u v : State) (p : ℕ) (limit : ℕ → ℕ) → t ≡ fixed s p → u ≡ holding t p → limit ≡ heights_on u p → v ≡ clean_up limit u → v ≡ checkpoint s p
unfolding checkpoint
checkpoint_is s t u v p limit is-t is-u is-limit is-v =
    is-v ∙ ap (λ l. clean_up l u) is-limit ∙ cleaned_is u p ∙ ap (λ x. clean_logs x p) (is-u ∙ ap (λ x. holding x p) is-t ∙ whole)
  where
    whole : holding (fixed s p) p ≡ fix_copy (prune s p) p
    whole = unfold holding in unfold fixed in unfold fix_copy in refl
