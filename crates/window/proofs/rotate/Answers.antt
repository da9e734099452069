-- `rotate` shifts: the two shifts share no bit, so they make the sum of the paper's wording.
use Rattle.std.proofs.Common.{rules}
use Rattle.window.specs.Rotation.{rotate_by_shifts}
use Rattle.window.proofs.rotate.Goals as goal

pub returns : goal.returns
returns c = rotate_by_shifts c.args.x (search rules)
