use Rattle.std.specs.Prelude.{◌≡◌, drop}
use Rattle.lists.specs.Lists.{gather}
use Rattle.logs.specs.{Log.{entries as messages}}
use Rattle.item.specs.Item.{items}
use Rattle.packets.specs.Words.{packets}
use Rattle.store.specs.{View.view}
use Rattle.restart.specs.{Resends.again, Sent.{putting, putting_words}}
use Rattle.restart.proofs.resend.resend_log.Given as goal

abbrev pub invariant-loop-w : goal.invariant-loop-w
invariant-loop-w l = let sent = gather (again (view l.s) l.p l.here) in
    (putting (packets l.initial.wire) (sent (messages l.l)) ≡ putting (packets l.wire) (sent (drop l.w-index (messages l.l)))) × (putting_words (items l.initial.wire) (sent (messages l.l)) ≡ putting_words (items l.wire) (sent (drop l.w-index (messages l.l))))
