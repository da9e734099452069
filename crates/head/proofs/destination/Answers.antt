-- `head::destination` meets its contract: by what `home` and `buddy` ensure, kind by kind; what is no kind goes where DATA does.
use Rattle.std.specs.Prelude.{◌≡◌, ℕ, ◌<◌, Result, Ok, Err, ◌⊎◌}
use Rattle.std.specs.Result.{result_unwrap_or}
use Rattle.std.proofs.Common.{refl, sym, ◌∙◌, inl, inr, ne_eqb, arith}
use Rattle.protocol.specs.{declared.Kind.Kind, declared.Kind.TheVariants.{Ask, Data, Ack}, declared.Refusal.Refusal, Parts.Job, Packets.{destination}, Numbers.{kind_number, KindOf}}
use Rattle.head.specs.Head.{job_of}
use Rattle.head.proofs.destination.Goals as goal

to_receiver : (j : Job) (k : Kind) (a b : ℕ) → (k ≡ Ask) ⊎ ((k ≡ Data) ⊎ (k ≡ Ack)) → j.home b ≡ destination j (kind_number k) a b
unfolding destination
to_receiver j k a b (inl e) = rw e
to_receiver j k a b (inr (inl e)) = rw e
to_receiver j k a b (inr (inr e)) = rw e

-- a byte, and the kind as which it counts: d where it is no kind
of_byte : (j : Job) (a b n : ℕ) (r : Result Kind Refusal) (d k : Kind) → KindOf n r → k ≡ result_unwrap_or r d → j.home b ≡ destination j (kind_number d) a b → destination j (kind_number k) a b ≡ destination j n a b
unfolding destination
of_byte j a b n (Ok x) d k h e g = rw (e, h)
of_byte j a b n (Err x) d k h e g = let out : (n < 1) ⊎ (5 < n) = h.1 in rw e (sym g ∙ rw (ne_eqb n 2 (λ q. omega arith), ne_eqb n 4 (λ q. omega arith)))

pub returns-in-Grant : goal.returns-in-Grant
unfolding destination
returns-in-Grant c =
    let byte = of_byte (job_of c.args.h.now) c.args.sender c.args.receiver c.args.kind _ _ _ c.try_from.ensures c.unwrap_or.ensures refl in
    rw (← byte) (c.home.ensures.is ∙ rw c.in-Grant.is)

pub returns-in-Note : goal.returns-in-Note
unfolding destination
returns-in-Note c =
    let byte = of_byte (job_of c.args.h.now) c.args.sender c.args.receiver c.args.kind _ _ _ c.try_from.ensures c.unwrap_or.ensures refl in
    rw (← byte) (c.buddy.ensures.is ∙ rw (c.in-Note.is, c.home-in-Note.ensures.is))

pub returns-in-Ask : goal.returns-in-Ask
unfolding destination
returns-in-Ask c =
    let byte = of_byte (job_of c.args.h.now) c.args.sender c.args.receiver c.args.kind _ _ _ c.try_from.ensures c.unwrap_or.ensures refl in
    rw (← byte) (c.home-in-Ask.ensures.is ∙ to_receiver (job_of c.args.h.now) _ c.args.sender c.args.receiver c.in-Ask.is)
