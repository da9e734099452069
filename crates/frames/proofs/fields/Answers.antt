-- `frames::fields` meets its contract: the table tells the length of each kind.
use Rattle.std.proofs.Common.{◌∙◌, arith}
use Rattle.protocol.specs.Frames.{least, least_length}
use Rattle.frames.specs.TableLaws.{single_line}
use Rattle.frames.proofs.fields.Goals as goal

pub inject-requires : goal.inject-requires
unfolding least_length least
inject-requires c = c.requires.exact ∙ rw c.in-16.is

pub deliver-requires : goal.deliver-requires
unfolding least_length least
deliver-requires c = c.requires.exact ∙ rw c.in-17.is

pub single-requires : goal.single-requires
single-requires c =
    let l = single_line _ _ c.requires (λ h. omega arith) (λ h. omega arith) in
    record { line_len = l.0; lt_kind = l.1 }

pub returns-in-16 : goal.returns-in-16
returns-in-16 c = c.inject.ensures ∙ rw c.in-16.is

pub returns-in-17 : goal.returns-in-17
returns-in-17 c = c.deliver.ensures ∙ rw c.in-17.is

pub returns-in_default : goal.returns-in_default
returns-in_default c = c.single.ensures
