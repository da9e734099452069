-- Restored log messages to local chares fill their entries: message by message, log by log.
use Rattle.std.specs.Prelude.{◌≡◌, refl, List, [], ◌∷◌, ◌++◌, ℕ}
use Rattle.lists.specs.Lists.{keep, keep_append}
use Rattle.protocol.specs.{declared.Entry.Entry, declared.Logged.Logged, Tickets.filled, Restart.{fill_all, is_ticketed_above}}

fill_append : (l : List Entry) (a b : List Logged) → fill_all l (a ++ b) ≡ fill_all (fill_all l a) b
unfolding fill_all
fill_append l [] b = refl
fill_append l (x ∷ a) b = fill_append (filled x.message.sender x.message.sn x.message.value x.message.hops l) a b

-- of some messages those that count
unfoldable pub filling : ℕ → ℕ → List Entry → List Logged → List Entry
filling c h l xs = fill_all l (keep (is_ticketed_above c h) xs)

pub filling_append : (c h : ℕ) (l : List Entry) (a b : List Logged) → filling c h l (a ++ b) ≡ filling c h (filling c h l a) b
unfolding filling
filling_append c h l a b = rw (keep_append (is_ticketed_above c h) a b) (fill_append l _ _)
