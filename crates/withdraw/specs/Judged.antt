-- The questions of frame 17 as the code puts them: 2 to 5 on the chare, then 12 by the desk's log, the wire and the chare's table.
use Rattle.std.specs.Prelude.{◌≡◌, refl, true, false, ◌&&◌, ◌≢◌, List, [], ◌∷◌, ◌++◌, ℕ, ◌<◌}
use Rattle.std.proofs.Common.{sym, ap, ◌∙◌, arith}
use Rattle.lists.specs.{Lists.find, Questions.{Question, Yes, ◌asks◌, first_no, first_no_yes, first_no_stops, first_no_passes}}
use Rattle.protocol.specs.{Parts.up, Tickets.entry, Packets.{lookup, is_named}, Withdraw.{last_sn, without_tn, logged_without_tn}}
use Rattle.protocol.specs.Questions.{is_chare, no_entry, on_wire, is_there, can_be_taken_back, withdraw_questions}
use Rattle.words.specs.Part.{part}
use Rattle.head.specs.Head.{job_of, lost_of, status_of, runs, chare_asked}
use Rattle.packets.specs.Words.{packets}
use Rattle.memory.specs.{Places.MEMORY, View.memory_view}
use Rattle.store.specs.{Places.{WIRE, PACKETS, live_from}, View.view, ViewLaws.{wire_at, live_at}, Framing.chare_in}

module _ (xs : List ℕ) (c : ℕ) where
  -- 12 of the desk's message n
  pub question_12 : (n : ℕ) → c < 13 → can_be_taken_back (view xs) c n
      ≡ (without_tn (lookup (memory_view (part (live_from 0) MEMORY xs)).log c n)
      && is_there (find (is_named 1 0 c n) (packets (part WIRE PACKETS xs)))
      && no_entry (entry (memory_view (part (live_from c) MEMORY xs)).table 0 n))
  unfolding can_be_taken_back logged_without_tn on_wire
  question_12 n h = rw (live_at xs 0 (omega arith), live_at xs c h, wire_at xs)

  -- 2 to 5
  abbrev firsts : List Question
  firsts = chare_asked (job_of xs) (lost_of xs) (status_of xs) c

  in_parts : withdraw_questions (view xs) c ≡ firsts ++ (12 asks can_be_taken_back (view xs) c (last_sn (view xs) c) ∷ [])
  unfolding withdraw_questions chare_asked is_chare view up runs
  in_parts = refl

  -- one that passed all has a memory
  pub passed_in : 0 ≡ first_no (withdraw_questions (view xs) c) → c < 13
  unfolding withdraw_questions is_chare
  passed_in e = chare_in xs c (first_no_yes (withdraw_questions (view xs) c) refl (sym e)).1.0

  -- n is the first "no" of 2 to 5
  pub stopped : (n : ℕ) → n ≡ first_no firsts → n ≢ 0 → n ≡ first_no (withdraw_questions (view xs) c)
  stopped n n-is h = n-is ∙ sym (ap first_no in_parts ∙ first_no_stops firsts _ (λ z. h (n-is ∙ z)))

  -- none of them is answered "no"
  module _ (z : 0 ≡ first_no firsts) where
    passed : Yes firsts
    unfolding chare_asked
    passed = first_no_yes firsts refl (sym z)

    pub index : c < 13
    unfolding chare_asked view
    index = chare_in xs c passed.1.0

    -- k is the last SN
    module _ (k : ℕ) (k-is : k ≡ ((view xs).live 0).sn c) where
      pub yes_12 : can_be_taken_back (view xs) c k ≡ true → 0 ≡ first_no (withdraw_questions (view xs) c)
      unfolding first_no last_sn
      yes_12 e = sym (ap first_no in_parts ∙ first_no_passes firsts _ passed ∙ rw (← k-is, e))

      pub no_12 : can_be_taken_back (view xs) c k ≡ false → 12 ≡ first_no (withdraw_questions (view xs) c)
      unfolding first_no last_sn
      no_12 e = sym (ap first_no in_parts ∙ first_no_passes firsts _ passed ∙ rw (← k-is, e))
