-- `renew` puts the table, then the top.
use Rattle.std.proofs.Common.{◌∙◌}
use Rattle.protocol.specs.Restart.{target_of}
use Rattle.restart.specs.Restored.{renewed, renew_memory}
use Rattle.restart.proofs.back.renew.Goals as goal

pub returns : goal.returns
unfolding target_of renewed
returns c =
    let a = c.args in
    let h = c.height-h in
    let t = c.highest-top in record {
      memory = renew_memory a.m.now a.row.now _ h.result t.result c.requires c.told-row h.ensures t.ensures t.type_inv c.copy_from_slice.ensures.after;
      target = c.target.ensures ∙ rw (t.ensures, h.ensures);
    }
