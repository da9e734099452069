-- A restart puts the machine's memories back: what a chare of it gets is its memory in the world, with entries filled.
use Rattle.std.specs.Prelude.{◌≡◌, refl, true, ◌⊎◌, ◌≢◌, List, [], ◌∷◌, ℕ, ◌≤◌}
use Rattle.std.proofs.Common.{sym, ◌∙◌, subst, arith}
use Rattle.std.proofs.Math.Path.{ap, fun_ext}
use Rattle.std.proofs.Math.Logic.{inl, inr}
use Rattle.lists.specs.Lists.{◌∈◌}
use Rattle.lists.specs.Tests.{true_not_false}
use Rattle.lists.specs.Keys.{NoDup, nodup_change1}
use Rattle.protocol.specs.declared.Logged.{Logged}
use Rattle.protocol.specs.declared.Entry.{Entry}
use Rattle.protocol.specs.declared.Status.TheVariants.{Down}
use Rattle.protocol.specs.Parts.{Memory, State, at_home}
use Rattle.protocol.specs.Setters.{with_table, with_highest_at_restart}
use Rattle.protocol.specs.Tickets.{for_message, fill, filled}
use Rattle.protocol.specs.Restart.{restored_table, fill_all, filled_table, restored}
use Rattle.protocol.specs.CrashFree.{Run}
use Rattle.protocol.specs.History.{message_of}
use Rattle.protocol.proofs.Recovery.Run.Facts.{Sent}
use Rattle.protocol.proofs.Recovery.Invariant.World.{Pending, put_mem}
use Rattle.protocol.proofs.Recovery.Invariant.Clauses.{Chare, InvP}
use Rattle.protocol.proofs.Recovery.Invariant.Linked.{world, Linked}
use Rattle.protocol.proofs.Recovery.Laws.AtHome.{at_home_ind}
use Rattle.protocol.proofs.Recovery.Laws.Filled.{FilledBy, LoggedHere, filled_table_mem, mem_filled_table, nodup_filled_table}
use Rattle.protocol.proofs.Recovery.Invariant.Counts.{chare_not_desk}
use Rattle.protocol.proofs.Recovery.Steps.Table.{Arrived, Rewritten}
use Rattle.protocol.proofs.Recovery.Steps.Retables.{tables_rewrite}
use Rattle.protocol.proofs.Recovery.Laws.Status.{down_not_up}
use Rattle.protocol.proofs.Recovery.Invariant.Homes.{home_local, on_home}

-- filling leaves what a fill leaves
nodup_fill_all_by : {K : Type 0} (k : Entry → K) → ((value hops : ℕ) (e : Entry) → k (fill value hops e) ≡ k e) → (l : List Entry) (xs : List Logged)
    → NoDup k l → NoDup k (fill_all l xs)
unfolding fill_all filled
nodup_fill_all_by k same l [] h = h
nodup_fill_all_by k same l (x ∷ xs) h =
    nodup_fill_all_by k same (filled x.message.sender x.message.sn x.message.value x.message.hops l) xs (nodup_change1 k (for_message x.message.sender x.message.sn) (fill x.message.value x.message.hops) l (same _ _) h)

pub filled_table_tns : (s : State) (p c : ℕ) → NoDup (λ (e : Entry). e.tn) (restored_table s p c) → NoDup (λ (e : Entry). e.tn) (filled_table s p c)
unfolding filled_table fill
filled_table_tns s p c h = nodup_fill_all_by _ (λ value hops e. refl) (restored_table s p c) _ h

-- an entry filled by a logged message is that message
filled_message : {P : Logged → Type 0} (c : ℕ) (e : Entry) (f : FilledBy P e) → f.logged.message.receiver ≡ c → f.logged.message ≡ message_of c e
unfolding message_of
filled_message c e f r i = record { sender = f.of_sender i; receiver = r i; sn = f.of_sn i; value = sym f.same_value i; hops = sym f.same_hops i }

module _ {p : Pending} {s : State} {x : Run} {stable : ℕ → ℕ} {mem : ℕ → Memory} (linked : Linked s mem) (inv : InvP p (world s x stable mem))
    (q : ℕ) (down : s.status q ≡ Down) where
  -- ---- the machine that is down
  pub not_desk : q ≢ 0
  not_desk e = down_not_up (sym down ∙ ap s.status e ∙ inv.machines.desk)

  pub here_chare : (c : ℕ) → s.job.home c ≡ q → Chare s.job c
  here_chare c h e = not_desk (sym h ∙ e)

  pub here_held : (c : ℕ) → s.job.home c ≡ q → s.held (s.job.home c) ≡ true
  here_held c h = ap s.held h ∙ inv.machines.covered q down

  here_mem : (c : ℕ) → s.job.home c ≡ q → mem c ≡ with_table (s.copy c) (restored_table s q c)
  here_mem c h = linked.down c (here_chare c h) (ap s.status h ∙ down) ∙ ap (λ q. with_table (s.copy c) (restored_table s q c)) h

  -- no other is
  pub there_up : (c : ℕ) → s.job.home c ≢ q → s.status (s.job.home c) ≢ Down
  there_up c d e = d (inv.machines.one (s.job.home c) q (λ u. down_not_up (sym e ∙ u)) (λ u. down_not_up (sym down ∙ u)))

  there_mem : (c : ℕ) → s.job.home c ≢ q → mem c ≡ s.live c
  there_mem c d = linked.up c (there_up c d)

  -- ---- the tables
  -- a message of a restored log was sent, by a sender on the machine that knows of it
  filled_arrived : (c : ℕ) → s.job.home c ≡ q → (e : Entry) → FilledBy (LoggedHere s q c) e → Arrived (world s x stable mem) c e
  filled_arrived c h e f =
      let y = f.given in
      let a = y.place in
      let o = on_home s.job q a y.here in
      let chare = here_chare a o in
      let log = (inv.copies a chare (here_held a o)).log in
      let from = sym f.of_sender ∙ log.owner f.logged y.member in
      let known = subst (λ r. f.logged.message.sn ≤ (s.copy a).sn r) y.of_receiver (log.counted f.logged y.member) in
      let count : (mem e.sender).sn c ≡ (s.copy a).sn c = ap (λ b. (mem b).sn c) from ∙ ap (λ m. m.sn c) (here_mem a o) in
      let same = f.of_sn in
      record {
        sent = subst (Sent x) (filled_message c e f y.of_receiver) (log.sent f.logged y.member);
        local = λ _. omega arith;
        remote = λ _ l. true_not_false
            (home_local s.job e.sender c (λ z. chare_not_desk inv.job a chare (sym from ∙ z)) (ap s.job.home from ∙ o ∙ sym h)) l;
      }

  filled_rewritten : (c : ℕ) → s.job.home c ≡ q → Rewritten (world s x stable mem) c (filled_table s q c)
  filled_rewritten c h =
      let table = ap (λ m. m.table) (here_mem c h) in
      record {
        old = λ e i.
            let r = filled_table_mem s q c i in
            let same = r.same in (
              r.before,
              subst (r.before ∈◌) (sym table) r.member,
              record {
                sender = sym same.same_sender;
                sn = sym same.same_sn;
                tn = sym same.same_tn;
                received = λ a. elim r.how [
                  | inl z ↦ inl (ap (λ (e : Entry). e.received) (sym z) ∙ a, ap (λ (e : Entry). e.value) (sym z), ap (λ (e : Entry). e.hops) (sym z))
                  | inr f ↦ inr (filled_arrived c h e f)
                ];
                noted = inl (sym same.same_noted);
              },
            );
        new = λ f i.
            let (e, j, same) = mem_filled_table s q c (subst (f ∈◌) table i) in
            record { entry = e; member = j; of_sender = same.same_sender; of_sn = same.same_sn; of_tn = same.same_tn };
        tns = filled_table_tns s q c (subst (NoDup (λ (e : Entry). e.tn)) table (inv.tables c (here_chare c h)).tns);
        keys = nodup_filled_table s q c;
      }

  -- ---- the memories
  abbrev back : ℕ → Memory
  back = at_home s.job q (λ c m. restored s q c) s.live

  back_tables : (c : ℕ) → ((back c).table ≡ (mem c).table) ⊎ (Chare s.job c × Rewritten (world s x stable mem) c (back c).table)
  unfolding restored
  back_tables = at_home_ind (λ c m. (m.table ≡ (mem c).table) ⊎ (Chare s.job c × Rewritten (world s x stable mem) c m.table))
      s.job q (λ c m. restored s q c) s.live
      (λ c h. inr (here_chare c h, filled_rewritten c h))
      (λ c d. inl (ap (λ m. m.table) (sym (there_mem c d))))

  -- they differ from those of the world in tables and tops alone
  back_rest : (c : ℕ) → with_highest_at_restart (with_table (mem c) (back c).table) (back c).highest_at_restart ≡ back c
  unfolding restored
  back_rest = at_home_ind (λ c m. with_highest_at_restart (with_table (mem c) m.table) m.highest_at_restart ≡ m) s.job q (λ c m. restored s q c) s.live
      (λ c h. ap (λ m. with_highest_at_restart (with_table m (restored s q c).table) (restored s q c).highest_at_restart) (here_mem c h))
      (λ c d. ap (λ m. with_highest_at_restart (with_table m (s.live c).table) (s.live c).highest_at_restart) (there_mem c d))

  pub restored_inv : InvP p (put_mem (world s x stable mem) (at_home s.job q (λ c m. restored s q c) s.live))
  restored_inv =
      subst (λ m. InvP p (put_mem (world s x stable mem) m)) (fun_ext back_rest)
      (tables_rewrite inv (λ c. (back c).table) (λ c. (back c).highest_at_restart) back_tables)
