-- The image of a chare that works an entry follows the fold of one message more, and what it owes is what the fold sends.
use Rattle.std.specs.Prelude.{◌≡◌, false, ◌≢◌, ℕ, ◌+◌, ◌-◌, ◌≤◌, take}
use Rattle.std.proofs.Math.Path.{sym, ap, subst⁻¹}
use Rattle.std.proofs.Common.{◌∙◌, subst}
use Rattle.lists.specs.Lists.{All}
use Rattle.protocol.specs.declared.Entry.{Entry}
use Rattle.protocol.specs.Parts.{Job, Memory}
use Rattle.protocol.specs.Work.{work, receivers, sent_value, ports}
use Rattle.protocol.specs.Working.{work_entry}
use Rattle.protocol.specs.CrashFree.{Run}
use Rattle.protocol.specs.History.{message_of}
use Rattle.protocol.proofs.Recovery.Run.Fold.{Local, local_take, local_send_all, local_send_all_state, local_work_sends, folded, folded_snoc}
use Rattle.protocol.proofs.Recovery.Run.Facts.{Sent, prefix_sent}
use Rattle.protocol.proofs.Recovery.Laws.Marks.{Marked, Reach, has, marked_work, reach_admitted}
use Rattle.protocol.proofs.Recovery.Invariant.World.{count_all, Owed}
use Rattle.protocol.proofs.Recovery.Invariant.Clauses.{Image}
use Rattle.protocol.proofs.Recovery.Laws.Places.{take_prefix}
use Rattle.protocol.proofs.Recovery.Invariant.Owing.{count_all_sends, owed_sent}
use Rattle.protocol.proofs.Recovery.Steps.WorkRun.{Works}

module _ {j : Job} {x y : Run} {c : ℕ} {m : Memory} (image : Image j x c m m.sn) (e : Entry) (g : Works j x y c m.height (message_of c e)) where
  -- before the sends
  abbrev taken : Local
  taken = local_take (folded j c (take m.height (x.worked c))) (message_of c e)

  abbrev sends : Local
  sends = local_send_all c taken (receivers (ports j) c e.hops) (sent_value (work m.state e.value)) (e.hops - 1)

  made : folded j c (take (m.height + 1) (y.worked c)) ≡ sends
  unfolding message_of
  made =
      ap (folded j c) g.longer
      ∙ folded_snoc j c (take m.height (x.worked c)) (message_of c e)
      ∙ local_work_sends j c _ (message_of c e)
      ∙ ap (λ v. local_send_all c taken (receivers (ports j) c e.hops) (sent_value (work v e.value)) (e.hops - 1)) (sym image.state)

  pub image_works : 1 ≤ e.sn → has (take m.height (x.worked c)) e.sender e.sn ≡ false → Reach (take m.height (x.worked c)) e.sender e.sn
      → Image j y c (work_entry m e) (count_all (receivers (ports j) c e.hops) m.sn)
  unfolding work_entry message_of
  image_works first new reach = record {
    reached = g.reached;
    state = ap (λ v. work v e.value) image.state ∙ sym (ap (λ (l : Local). l.state) made ∙ local_send_all_state c taken _ _ _);
    counts = ap (count_all (receivers (ports j) c e.hops)) image.counts ∙ count_all_sends c taken _ _ _ ∙ sym (ap (λ (l : Local). l.sn) made);
    marks = subst⁻¹ (Marked (work_entry m e)) g.longer (marked_work image.marks c e first new (reach_admitted image.marks reach));
  }

  pub owed_works : c ≢ 0 → Owed y c (receivers (ports j) c e.hops) (sent_value (work m.state e.value)) (e.hops - 1) m.sn
  owed_works chare =
      let out : All (Sent y) (folded j c (take (m.height + 1) (y.worked c))).out = prefix_sent j g.ok c chare (take_prefix (m.height + 1) (y.worked c)) in
      subst⁻¹ (Owed y c (receivers (ports j) c e.hops) (sent_value (work m.state e.value)) (e.hops - 1)) image.counts
      (owed_sent y c taken _ _ _ (subst (λ (l : Local). All (Sent y) l.out) made out))
