-- Frame 12: the questions on the chare, the next entry, and the entry worked.
use Rattle.std.specs.Prelude.{◌≡◌, refl, List, ℕ, ◌<◌}
use Rattle.std.proofs.Common.{sym, ap, ◌∙◌, arith}
use Rattle.std.proofs.Math.Option.{Option, some, none}
use Rattle.lists.specs.Questions.{put_all, first_no, first_no_yes}
use Rattle.protocol.specs.{declared.Answer.Answer, declared.Answer.TheVariants.Refused, declared.Entry.Entry, Parts.up, Working.next_entry}
use Rattle.protocol.specs.{Questions.{is_chare, work_questions, entry_questions}, Step.{Outcome, judged}}
use Rattle.protocol.proofs.{Recovery.Laws.Lookups.next_entry_some}
use Rattle.words.specs.Part.{part}
use Rattle.head.specs.Head.{job_of, lost_of, status_of, runs, chare_asked}
use Rattle.tickets.specs.Fits.{InRange, found_fits}
use Rattle.memory.specs.{Places.{TABLE, ROW, MEMORY}, View.{memory_view, table_part}}
use Rattle.store.specs.{Places.live_from, View.{view, tried, Framed}, ViewLaws.live_at, Framing.{refuses as refused, chare_in}}
use Rattle.sends.specs.{Verdict.{stopped, passed}, Works.{worked_state, chare_questions, tried_work}}

-- ---- the next entry of a memory
module _ (ws : List ℕ) where
  -- an entry found fits a word
  pub next_fits : (e : Entry) → next_entry (memory_view ws) ≡ some e → InRange e
  unfolding next_entry
  next_fits e q = found_fits (part TABLE ROW ws) _ (rw (table_part ws) at q)

  -- no TN lies above the last height
  pub none_next : (memory_view ws).height ≡ 65535 → none ≡ next_entry (memory_view ws)
  none_next h = go (next_entry (memory_view ws)) refl
    where
      go : (o : Option Entry) → next_entry (memory_view ws) ≡ o → none ≡ o
      go none q = refl
      go (some e) q = absurd (omega (arith, (next_entry_some (memory_view ws) q).1, (next_fits e q).3))

module _ (xs : List ℕ) (c : ℕ) where
  abbrev work_outcome : Outcome
  work_outcome = tried (view xs) (work_questions (view xs) c) (worked_state (view xs) c (next_entry ((view xs).live c)))

  asked : {n : ℕ} → n ≡ first_no (chare_asked (job_of xs) (lost_of xs) (status_of xs) c) → n ≡ first_no (chare_questions (view xs) c)
  unfolding view
  asked e = e

  pub frame_refused : (n : ℕ) → n ≡ first_no (chare_asked (job_of xs) (lost_of xs) (status_of xs) c) → (n ≡ 0 → ⊥) → Framed xs xs (Refused n) work_outcome
  unfolding tried work_questions chare_asked is_chare up runs
  frame_refused n e f = refused xs n (stopped (view xs) (chare_questions (view xs) c) _ _ (λ z. f (asked e ∙ z)) ∙ rw (← asked e))

  module _ (z : 0 ≡ first_no (chare_asked (job_of xs) (lost_of xs) (status_of xs) c)) where
    pub index : c < 13
    unfolding chare_asked
    index = chare_in xs c (first_no_yes (chare_questions (view xs) c) refl (sym (asked z))).1.0

    by_entry : (o : Option Entry) → next_entry (memory_view (part (live_from c) MEMORY xs)) ≡ o → work_outcome ≡ tried_work (view xs) c o
    unfolding tried tried_work work_questions chare_asked is_chare up runs
    by_entry o q =
        passed (view xs) (chare_questions (view xs) c) _ _ refl (sym (asked z))
        ∙ ap (tried_work (view xs) c) (rw (live_at xs c index) q)

    pub nothing_next : next_entry (memory_view (part (live_from c) MEMORY xs)) ≡ none → Framed xs xs (Refused 6) work_outcome
    unfolding tried_work entry_questions put_all judged
    nothing_next q = refused xs 6 (by_entry none q)

    pub next_worked : (e : Entry) → next_entry (memory_view (part (live_from c) MEMORY xs)) ≡ some e
        → (ys : List ℕ) (a : Answer) → Framed xs ys a (tried_work (view xs) c (some e)) → Framed xs ys a work_outcome
    next_worked e q ys a r = rw (by_entry (some e) q) r
