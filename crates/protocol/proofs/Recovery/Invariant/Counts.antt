-- SN counts where nothing is pending: a chare that has worked all that the run has worked there has sent all that the run has sent.
use Rattle.std.specs.Prelude.{◌≡◌, ◌≢◌, ◌⊎◌, ℕ, eqb, length, take}
use Rattle.std.proofs.Common.{sym, ap, ◌∙◌, subst, arith}
use Rattle.std.proofs.Math.Seq.{take-length}
use Rattle.lists.specs.Tests.{either}
use Rattle.protocol.specs.Parts.{Job, Memory}
use Rattle.protocol.specs.CrashFree.{Run}
use Rattle.protocol.proofs.Recovery.Run.Fold.{folded}
use Rattle.protocol.proofs.Recovery.Run.Facts.{RunOk, sent_below}
use Rattle.protocol.proofs.Recovery.Invariant.World.{nothing_pending, counted, count_all, Stable, SentKey, InLog}
use Rattle.protocol.proofs.Recovery.Invariant.Clauses.{Chare, JobOk, Image, Images, Log}

pub counted_nothing : (a : ℕ) (f : ℕ → ℕ) → counted nothing_pending a f ≡ f
unfolding counted count_all
counted_nothing a f = either (eqb a 0) (λ e. rw e) (λ e. rw e)

-- a chare is not the desk
pub chare_not_desk : {j : Job} → JobOk j → (c : ℕ) → Chare j c → c ≢ 0
chare_not_desk {j} job c h e = h (ap j.home e ∙ job.desk)

-- the desk has sent what the run has sent from there
pub desk_now : {j : Job} {x : Run} {mem : ℕ → Memory} → Images j x nothing_pending mem → (mem 0).sn ≡ x.sn 0
desk_now {mem = mem} images = sym (counted_nothing 0 (mem 0).sn) ∙ images.desk

module _ {j : Job} {x : Run} {mem : ℕ → Memory} (images : Images j x nothing_pending mem) (c : ℕ) (chare : Chare j c) where
  pub image_now : Image j x c (mem c) (mem c).sn
  image_now = subst (Image j x c (mem c)) (counted_nothing c (mem c).sn) (images.image c chare)

  pub full_counts : JobOk j → RunOk j x → (mem c).height ≡ length (x.worked c) → (mem c).sn ≡ x.sn c
  full_counts job ok e =
      image_now.counts
      ∙ ap (λ h. (folded j c (take h (x.worked c))).sn) e
      ∙ ap (λ l. (folded j c l).sn) (take-length (x.worked c))
      ∙ sym (ok.counts c (chare_not_desk job c chare))

-- whatever the run has sent from a log's owner, whose counts are the run's, is in the log or stable
pub sent_logged : {j : Job} {x : Run} {stable : ℕ → ℕ} {mem : ℕ → Memory} {a r n : ℕ} → RunOk j x
    → Log j x stable mem a (mem a).log (mem a).sn → (mem a).sn ≡ x.sn a → SentKey x a r n → InLog (mem a).log r n ⊎ Stable x stable r a n
sent_logged {mem = mem} {a = a} {r = r} {n = n} ok log e k =
    let first = (ok.bounds k.message k.sent).0 in
    let last = sent_below ok a r k.message k.sent k.of_sender k.of_receiver in
    let same = ap (λ f. f r) e in
    let sn = k.of_sn in
    log.whole r n (omega arith) (omega arith)
