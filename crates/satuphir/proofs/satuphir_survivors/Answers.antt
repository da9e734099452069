-- `satuphir_survivors` writes to the first 48 bytes, where there are so many.
use Rattle.std.specs.Prelude.{◌≡◌, ◌≤◌, List, ℕ, length, take}
use Rattle.crashsets.specs.Digits.{ROOM}
use Rattle.satuphir.specs.Entry.{wrote_front, counted_lines, not_counted}
use Rattle.satuphir.proofs.satuphir_survivors.Goals as goal

pub returns-in-None : goal.returns-in-None
returns-in-None c = not_counted _ _ c.in-None.ensures.cases

pub returns-in-Some : goal.returns-in-Some
returns-in-Some c =
    let chunk = c.in-Some.ensures.cases in
    let room : List ℕ = c.args.out.now in
    let enough : ROOM ≤ length room = chunk.enough in
    let front : c.in-Some.front.now ≡ take ROOM room = chunk.same in
    counted_lines _ _ enough _ _ (wrote_front _ _ _ _ _ enough front c.survivors.ensures.wrote c.survivors.ensures.size)
