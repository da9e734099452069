-- An injection: the run sends one more message of the desk, which the desk still owes.
use Rattle.std.specs.Prelude.{◌≡◌, List, [], ◌∷◌, ◌+◌}
use Rattle.std.proofs.Math.Path.{refl}
use Rattle.std.proofs.Common.{sym, ap, ◌∙◌, subst, inr}
use Rattle.std.proofs.Math.Logic.{inl}
use Rattle.std.proofs.Math.Option.{some}
use Rattle.lists.specs.Map.{upd}
use Rattle.lists.specs.Lists.{all_nil, all_cons, prefix_refl}
use Rattle.protocol.specs.Work.{ports}
use Rattle.protocol.specs.declared.Message.{Message}
use Rattle.protocol.specs.CrashFree.{Injection, Work, Run, run_send, crash_free}
use Rattle.protocol.proofs.Recovery.Run.Facts.{Sent}
use Rattle.protocol.proofs.Recovery.Run.Send.{send_sn_same, send_sends, sent_before, sent_after}
use Rattle.protocol.proofs.Recovery.Run.Laws.{ForChares, run_ok}
use Rattle.protocol.proofs.Recovery.Invariant.World.{World, put_run, Pending, nothing_pending}
use Rattle.protocol.proofs.Recovery.Invariant.Clauses.{Chare, Domain, Image, Images, InvP}
use Rattle.protocol.proofs.Recovery.Invariant.Counts.{desk_now, chare_not_desk, image_now}
use Rattle.protocol.proofs.Recovery.Invariant.Owing.{counted_sender, counted_other, count_all_one, owed_one}
use Rattle.protocol.proofs.Recovery.Run.Grown.{Grown, image_grown, table_grown}
use Rattle.protocol.proofs.Recovery.Steps.Grow.{GoneOn, run_grows}

-- what the desk then owes
abbrev pub injected : Injection → Pending
injected i = record { sender = 0; receivers = i.chare ∷ []; value = i.value; hops = i.hops }

module _ {w : World} (is : List Injection) (ws : List Work) (for-chares : ForChares is) (is_run : crash_free (ports w.job) is ws ≡ some w.run) (inv : InvP nothing_pending w) (i : Injection) (chare : Chare w.job i.chare) where
  abbrev after : Run
  after = run_send w.run 0 i.chare i.value i.hops

  grown : Grown w.run after
  unfolding run_send
  grown = record { worked = λ c. prefix_refl _; sent = sent_after (run_ok w.job is ws w.run for-chares is_run) 0 i.chare i.value i.hops }

  domain : Domain w.job after
  domain = record {
    receiver = λ m h. elim (sent_before w.run 0 i.chare i.value i.hops m h) [ inl k ↦ inv.domain.receiver m k | inr e ↦ subst (λ (m : Message). Chare w.job m.receiver) (sym e) chare ];
    sender = λ m h. elim (sent_before w.run 0 i.chare i.value i.hops m h) [ inl k ↦ inv.domain.sender m k | inr e ↦ inl (ap (λ (m : Message). m.sender) e) ];
  }

  images : Images w.job after (injected i) w.mem
  images = record {
    image = λ c k. image_grown grown (subst (λ f. Image w.job w.run c (w.mem c) f) (sym (counted_other (injected i) c (w.mem c).sn (chare_not_desk inv.job c k))) (image_now inv.images c k));
    desk = counted_sender (injected i) (w.mem 0).sn ∙ count_all_one i.chare (w.mem 0).sn ∙ ap (λ f. upd i.chare (f i.chare + 1) f) (desk_now inv.images) ∙ sym (send_sn_same w.run 0 i.chare i.value i.hops);
    owed = owed_one after 0 i.chare i.value i.hops (w.mem 0).sn (subst (λ f. Sent after (record { sender = 0; receiver = i.chare; sn = f i.chare + 1; value = i.value; hops = i.hops })) (sym (desk_now inv.images)) (send_sends w.run 0 i.chare i.value i.hops));
    owing = inl refl;
    owed_to = all_cons chare (all_nil _);
  }

  goes_on : GoneOn (injected i) w after w.mem
  unfolding run_send
  goes_on = record {
    grown = grown;
    same_counts = λ c. refl;
    same_table = λ c. refl;
    same_log = λ c. refl;
    domain = domain;
    images = images;
    heights = (let h = inv.heights in record { normal = h.normal; catching_up = h.catching_up; down = h.down; above_stable = h.above_stable; copied = h.copied });
    tables = λ c k. table_grown grown refl (inv.tables c k);
    ordered = inv.ordered.worked;
    placed = λ c k e h u. inl u;
  }

  pub inject_step : InvP (injected i) (put_run w (run_send w.run 0 i.chare i.value i.hops))
  inject_step = run_grows inv goes_on
