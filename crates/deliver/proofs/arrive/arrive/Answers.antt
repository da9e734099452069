-- `arrive` goes by the content.
use Rattle.std.specs.Prelude.{refl}
use Rattle.deliver.specs.{Effect.{effect, effect_questions}, Fits.hops_fit, View.{effect_of, did}}
use Rattle.deliver.proofs.arrive.arrive.Goals as goal

pub returns-in-Ask : goal.returns-in-Ask
unfolding effect effect_questions
returns-in-Ask c = rw c.in-Ask.is c.ask.ensures

pub returns-in-GrantOld : goal.returns-in-GrantOld
unfolding effect effect_questions
returns-in-GrantOld c = did _ c.args.p c.in-GrantOld.is _ _ _ refl c.grant_old.ensures

pub returns-in-GrantReceived : goal.returns-in-GrantReceived
unfolding effect effect_questions
returns-in-GrantReceived c =
    did _ c.args.p c.in-GrantReceived.is _ _ _ refl c.grant_received.ensures

pub returns-in-GrantNew : goal.returns-in-GrantNew
unfolding effect effect_questions
returns-in-GrantNew c = did _ c.args.p c.in-GrantNew.is _ _ _ refl c.grant_new.ensures

pub returns-in-Data : goal.returns-in-Data
unfolding effect effect_questions
returns-in-Data c =
    did _ c.args.p c.in-Data.is _ _ _ refl (rw (hops_fit c.args.p c.requires.fits c.in-Data.is) at c.data_in.ensures)

pub returns-in-Note : goal.returns-in-Note
unfolding effect effect_questions effect_of
returns-in-Note c = did _ c.args.p c.in-Note.is _ _ _ refl (rw c.quiet.ensures)

pub returns-in-Ack : goal.returns-in-Ack
unfolding effect effect_questions
returns-in-Ack c = did _ c.args.p c.in-Ack.is _ _ _ refl c.ack.ensures
