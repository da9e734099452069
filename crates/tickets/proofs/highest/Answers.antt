use Rattle.std.specs.Prelude.{◌≡◌, max}
use Rattle.std.specs.List.{fold}
use Rattle.std.proofs.Common.{◌∙◌, rules}
use Rattle.item.specs.Item.{item_of}
use Rattle.tickets.specs.Holes.{highest_fold}
use Rattle.tickets.proofs.highest.Goals as goal

pub returns : goal.returns
returns c =
    let e : c.fold.result ≡ fold (λ h w. max h (item_of w).tn) c.args.height c.items.result.now = search rules in
    e ∙ highest_fold _ _ _ c.items.ensures
