-- `packets::find` meets its contract: the first word of the name.
use Rattle.std.specs.Prelude.{◌+◌, ◌*◌}
use Rattle.std.proofs.Common.{◌∙◌, rules, tests, arith}
use Rattle.std.proofs.lemmas.Iterator.{YieldsList-from_slice}
use Rattle.std.proofs.lemmas.Iterator.Search.{position_from_yields_List}
use Rattle.words.specs.Rows.{PEER, OWNER, row}
use Rattle.packets.specs.{Names.{has_name, by_name, nobody}, View.{sought_at, sought_none}}
use Rattle.packets.proofs.find.Goals as goal

pub returns-then-name-ge16 : goal.returns-then-name-ge16
returns-then-name-ge16 c = nobody _ _ _ _ _ (λ s r. omega arith)

pub returns-in_err-place : goal.returns-in_err-place
returns-in_err-place c =
    let a = c.args.name in
    let test = has_name (a.sn + PEER * a.receiver + OWNER * a.sender) a.kind in
    let first = position_from_yields_List test _ _ c.position.result c.position.ensures.ran (YieldsList-from_slice (row c.args.ws.now) cc) (λ x b q k. search (rules, tests)) in
    c.from_residual.ensures ∙ sought_none _ test _ (λ w. by_name _ _ _ _ w (omega arith) (omega arith) (search rules)) _ first c.in_err-place.was

pub returns : goal.returns
returns c =
    let a = c.args.name in
    let test = has_name (a.sn + PEER * a.receiver + OWNER * a.sender) a.kind in
    let first = position_from_yields_List test _ _ c.position.result c.position.ensures.ran (YieldsList-from_slice (row c.args.ws.now) cc) (λ x b q k. search (rules, tests)) in
    rw (c.unpack.ensures, c.items-items.ensures) (sought_at _ test _ (λ w. by_name _ _ _ _ w (omega arith) (omega arith) (search rules)) _ first c.in_ok-place.was)
