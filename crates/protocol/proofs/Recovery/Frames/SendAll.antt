-- All that a step has to send, one message after the other.
use Rattle.std.specs.Prelude.{◌≡◌, refl, true, ◌≢◌, List, [], ◌∷◌, ℕ, ◌+◌, eqb}
use Rattle.std.proofs.Common.{sym, ap, ◌∙◌, subst, inl, arith}
use Rattle.std.proofs.Math.Option.{Option, some, none}
use Rattle.lists.specs.Tests.{either, and_l, and_r}
use Rattle.lists.specs.Lists.{◌∈◌, all_nil}
use Rattle.protocol.specs.declared.Entry.{Entry}
use Rattle.protocol.specs.declared.Status.TheVariants.{Down}
use Rattle.protocol.specs.Parts.{State}
use Rattle.protocol.specs.Window.{admitted}
use Rattle.protocol.specs.Tickets.{entry}
use Rattle.protocol.specs.Sending.{is_local, next_message, send_local, send_message, send, send_all}
use Rattle.protocol.specs.Packets.{seen}
use Rattle.protocol.specs.Questions.{sn_to_send, no_entry, takes_ticket, window_admits, put_to_all}
use Rattle.protocol.specs.CrashFree.{Run}
use Rattle.protocol.proofs.Recovery.Run.Facts.{RunOk}
use Rattle.protocol.proofs.Recovery.Laws.Lookups.{entry_some}
use Rattle.protocol.proofs.Recovery.Invariant.World.{World, nothing_pending, counted, count_all, Owed}
use Rattle.protocol.proofs.Recovery.Invariant.Clauses.{Image, InvP}
use Rattle.protocol.proofs.Recovery.Invariant.Good.{Good}
use Rattle.protocol.proofs.Recovery.Steps.Log.{to_send}
use Rattle.protocol.proofs.Recovery.Frames.States.{live}
use Rattle.protocol.proofs.Recovery.Frames.Send.{next_chare, keep_remote, keep_found, keep_ticket}
use Rattle.protocol.proofs.Recovery.Frames.Calm.{calm_send}
use Rattle.protocol.proofs.Recovery.Invariant.Homes.{local_home}

-- question 8 for a local send that finds no entry
admits : (s : State) (a b : ℕ) → window_admits s a b ≡ true → is_local s.job a b ≡ true → entry (s.live b).table a ((s.live a).sn b + 1) ≡ none
    → admitted (seen (s.live b) a ((s.live a).sn b + 1)) ≡ true
unfolding window_admits takes_ticket sn_to_send no_entry
admits s a b q l e = rw (l, e) at q

module _ {s : State} {x : Run} {stable : ℕ → ℕ} (ok : RunOk s.job x) (a r : ℕ) (l : List ℕ) (v h : ℕ) (g : Good (to_send a (r ∷ l) v h) s x stable)
    (u : s.status (s.job.home a) ≢ Down) (q : window_admits s a r ≡ true) where
  keep_local : is_local s.job a r ≡ true → (o : Option Entry) → entry (s.live r).table a ((s.live a).sn r + 1) ≡ o → Good (to_send a l v h) (send_local s (next_message s a r v h) o) x stable
  keep_local f none e = keep_ticket ok a r l v h g u f e (admits s a r q f e)
  keep_local f (some e) found = keep_found ok a r l v h g u f e found (λ z.
      let (i, _, _) = entry_some (s.live r).table a ((s.live a).sn r + 1) found in
      let up = subst (λ p. s.status p ≢ Down) (local_home s.job a r f) u in
      let b = (g.inv.tables r (next_chare ok a r l v h g u)).positive e (subst (λ k. e ∈ k.table) (sym (live g r up)) i) in
      omega arith)

  pub keep_send : Good (to_send a l v h) (send s a r v h) x stable
  unfolding send send_message next_message
  keep_send = either (is_local s.job a r) (λ f. rw f (keep_local f _ refl)) (λ f. rw f (keep_remote ok a r l v h g u f))

-- one question put to all
pub keep_send_all : {x : Run} {stable : ℕ → ℕ} (s : State) → RunOk s.job x → (a : ℕ) (l : List ℕ) (v h : ℕ) → Good (to_send a l v h) s x stable
    → s.status (s.job.home a) ≢ Down → put_to_all window_admits s a l v h ≡ true → Good (to_send a [] v h) (send_all s a l v h) x stable
unfolding send_all put_to_all
keep_send_all s ok a [] v h g u q = g
keep_send_all {x} {stable} s ok a (r ∷ l) v h g u q =
    let k = calm_send s a r v h in
    keep_send_all (send s a r v h) (subst (λ j. RunOk j x) (sym k.job) ok) a l v h (keep_send ok a r l v h g u (and_l _ _ q))
    (λ d. u (ap (λ f. f (s.job.home a)) (sym k.status) ∙ ap (λ j. (send s a r v h).status (j.home a)) (sym k.job) ∙ d))
    (and_r (window_admits s a r) _ q)

-- nothing is left to send
counted_all : (a v h c : ℕ) (f : ℕ → ℕ) → counted (to_send a [] v h) c f ≡ counted nothing_pending c f
unfolding counted count_all
counted_all a v h c f = either (eqb c a) (λ e. rw e (either (eqb c 0) (λ e. rw e) (λ e. rw e))) (λ e. rw e (either (eqb c 0) (λ e. rw e) (λ e. rw e)))

pub all_sent : {w : World} (a v h : ℕ) → InvP (to_send a [] v h) w → InvP nothing_pending w
unfolding Owed
all_sent {w} a v h inv = record {
  job = inv.job;
  domain = inv.domain;
  machines = inv.machines;
  heights = inv.heights;
  tables = inv.tables;
  ordered = inv.ordered;
  remembered = inv.remembered;
  noted = inv.noted;
  logs = inv.logs;
  copies = inv.copies;
  notes = inv.notes;
  wire = inv.wire;
  images = record {
    image = λ c k. subst (Image w.job w.run c (w.mem c)) (counted_all a v h c (w.mem c).sn) (inv.images.image c k);
    desk = sym (counted_all a v h 0 (w.mem 0).sn) ∙ inv.images.desk;
    owed = tt;
    owing = inl refl;
    owed_to = all_nil _;
  };
}
