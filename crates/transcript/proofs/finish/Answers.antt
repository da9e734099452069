-- `finish` answers a line that was begun as if a newline came.
use Rattle.std.proofs.Common.{sym, eq-eqb, ne_eqb}
use Rattle.std.specs.Prelude.{refl}
use Rattle.transcript.specs.Ends.{one_begun, ends_empty, ends_begun}
use Rattle.transcript.proofs.finish.Goals as goal

pub returns-then-n-eq0 : goal.returns-then-n-eq0
returns-then-n-eq0 c = ends_empty _ _ _ _ c.if-n-eq0.true

pub returns-then-taken-eq1 : goal.returns-then-taken-eq1
returns-then-taken-eq1 c =
    ends_begun _ _ _ _ c.told-line (one_begun _ _ _ c.told-line c.if-n-eq0.false) _ _ _ _ c.feed-taken.array_long2 c.feed-taken.ensures _ (sym (eq-eqb _ _ c.if-taken-eq1.true)) refl

pub returns-else-taken-eq1 : goal.returns-else-taken-eq1
returns-else-taken-eq1 c =
    ends_begun _ _ _ _ c.told-line (one_begun _ _ _ c.told-line c.if-n-eq0.false) _ _ _ _ c.feed-taken.array_long2 c.feed-taken.ensures _ (sym (ne_eqb _ _ c.if-taken-eq1.false)) refl
