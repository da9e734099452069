use Rattle.std.specs.Prelude.{◌≡◌}
use Rattle.lists.specs.Lists.{gather}
use Rattle.protocol.specs.Parts.{every_sender}
use Rattle.item.specs.Item.{items}
use Rattle.packets.specs.Words.{packets}
use Rattle.store.specs.View.{view}
use Rattle.restart.specs.{Ranges.{range}, Resends.all_again, Sent.{putting, putting_words}}
use Rattle.restart.proofs.resend.resend_all.Given as goal

abbrev pub invariant-loop-q : goal.invariant-loop-q
invariant-loop-q l = let sent = gather (all_again (view l.s) l.p) in
    (putting (packets l.initial.wire) (sent every_sender) ≡ putting (packets l.wire) (sent (range 13 l.q))) × (putting_words (items l.initial.wire) (sent every_sender) ≡ putting_words (items l.wire) (sent (range 13 l.q)))
